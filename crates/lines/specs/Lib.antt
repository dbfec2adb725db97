-- What the contracts cite beside crate rules' definitions.
pub mod Fields
pub mod Names
pub mod Shown
pub mod First
