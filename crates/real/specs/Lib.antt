-- What the contracts cite beside crate rules' definitions.
pub mod PartsOf
pub mod InMinute
pub mod StepMost
