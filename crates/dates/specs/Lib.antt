-- What the contracts cite beside crate rules' definitions.
pub mod Answers
pub mod Buffers
