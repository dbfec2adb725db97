pub mod Steps
pub mod Zones
pub mod Fractions
pub mod Times
pub mod Dates
pub mod Values
pub mod Places
pub mod Stamps
