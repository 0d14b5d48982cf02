pub mod Answering
pub mod Options
pub mod Outcome
pub mod Refusal
pub mod Solution
pub mod Solving
