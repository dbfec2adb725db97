pub mod Names
pub mod Limits
pub mod Readers
pub mod Count
