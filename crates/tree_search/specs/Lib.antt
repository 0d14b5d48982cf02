pub mod Evaluation
pub mod Found
pub mod Progress
