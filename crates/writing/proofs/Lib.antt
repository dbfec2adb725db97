-- Laws that this crate's proofs share, and that its callers cite.
pub mod Fields
pub mod Texts
pub mod Cases
pub mod Lengths
pub mod Letters
pub mod Formats
pub mod Bounds
pub mod Loops
pub mod Times
