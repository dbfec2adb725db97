-- What a reader must believe: the rules of document 01. A definition has the sentence that it renders above it, in quotes. On top stands
-- Functions.answer, for every setting and call; Calls.answered and Calls.after say what comes back and what the lent buffer then holds.
pub mod Types
pub mod Basics
pub mod Floats
pub mod Calls
pub mod Calendar
pub mod Moments
pub mod Decimal
pub mod Reading
pub mod Modifiers
pub mod Writing
pub mod Functions
pub mod Program
