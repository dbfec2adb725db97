-- Demand 3, to be read by itself.
pub mod Demand
