-- Laws of timediff: of the numbers that it gives and of the text that rules makes of them.
pub mod BackOff
pub mod Shifts
pub mod Numbers
pub mod Rounds
pub mod Answer
pub mod PutBack
pub mod Promise
pub mod Text
pub mod Ways
