-- What the contracts cite: a program's input, and the numbers in it.
pub mod Lines
pub mod Numbers
