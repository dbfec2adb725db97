-- A stamp and its milliseconds, there and back.
pub mod Back
-- The milliseconds of a call, and which stamps are written.
pub mod Milliseconds
