-- What the contracts and laws cite beside crate rules' definitions.
pub mod Readers
pub mod Written
