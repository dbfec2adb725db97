-- What this crate's proofs share.
pub mod Feeding
pub mod Saying
pub mod Numbers
