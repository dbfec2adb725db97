-- What the functions take. What they give stands in rules.
pub mod Ranges
