-- Laws that this crate's proofs share, and that its callers cite.
pub mod Columns
pub mod Decimal
pub mod Buffer
pub mod Down
pub mod Hex
pub mod Signs
pub mod Texts
pub mod Trim
pub mod Floats
pub mod Lengths
pub mod Splits
