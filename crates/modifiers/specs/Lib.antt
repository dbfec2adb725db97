-- What the contracts cite beside crate rules' definitions.
pub mod Buffer
pub mod Words
pub mod Stepped
