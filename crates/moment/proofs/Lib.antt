-- Laws of the record that rules defines.
-- what holds of both branches of a test
pub mod Branches
-- what each step gives, case by case
pub mod Steps
-- the ranges of the fields, through each step
pub mod Bounds
-- numbers with a sign
pub mod Ways
-- the modifiers' steps, case by case
pub mod Modifiers
-- one step after another
pub mod Chains
-- the milliseconds of the fields that are meant
pub mod Sums
-- months by signed division
pub mod Carries
-- the steps that refuse, and the tests that answer no
pub mod Refused
-- the ranges, through each setter by itself
pub mod Keeping
