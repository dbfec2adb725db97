-- What timediff gives, and what is promised of it.
pub mod Spans
pub mod Promise
