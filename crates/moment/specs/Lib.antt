-- What the contracts cite beside crate rules' definitions.
pub mod Fields
pub mod Held
pub mod Ranges
pub mod Steps
pub mod Sums
