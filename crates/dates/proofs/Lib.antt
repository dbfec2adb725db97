-- Laws that this crate's proofs share.
pub mod Laying
pub mod Ended
pub mod Keeping
pub mod Last
