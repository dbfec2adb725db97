-- What the contracts cite beside crate rules' definitions.
pub mod Replies
pub mod Milliseconds
pub mod Back
