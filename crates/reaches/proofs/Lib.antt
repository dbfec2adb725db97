-- Laws on what the code answers.
pub mod Back
