-- What the contracts cite beside crate rules' definitions.
pub mod Back
