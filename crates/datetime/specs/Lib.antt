-- What the contracts cite beside crate rules' definitions.
pub mod Allowed
pub mod Opened
pub mod Given
pub mod Instants
