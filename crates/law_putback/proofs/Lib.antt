-- Demand 3, from texts to texts.
-- the bytes of the texts, and a buffer of one modifier
pub mod Texts
-- the years 0 to 9999
pub mod Years
-- what a time value reaches by itself, and with a shift
pub mod Reached
-- instants that are written in full
pub mod Given
-- what seconds print
pub mod Seconds
-- records that are written alike
pub mod Shown
pub mod Fields
-- the proof
pub mod Demand
-- instants as the demand means them
pub mod Examples
