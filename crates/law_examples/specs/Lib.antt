pub mod Computing
pub mod Marked
