-- what refuses a call before anything is read
pub mod Allowed
-- the moment that a call is about
pub mod Opened
-- what is given back of an outcome
pub mod Given
-- from the moment that a call is about to the call's outcome
pub mod Answers
-- the steps of a call where they go on, and where they refuse
pub mod Cases
