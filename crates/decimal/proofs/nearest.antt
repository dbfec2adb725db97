pub mod Powers
pub mod Joined
