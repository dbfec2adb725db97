-- Laws that this crate's proofs share, and that its callers cite.
-- fields, one after another
pub mod Parts
-- the names of the functions
pub mod Naming
-- answers as texts
pub mod Showing
-- the first line
pub mod Numbers
-- what comes of a call: no NaN
pub mod Outcomes
-- from the fields to what comes of the line's call
pub mod Asking
-- how long an answer may be: fields of two digits, and what is written of them
pub mod Few
pub mod Short
-- the names by their first letter
pub mod Letters
