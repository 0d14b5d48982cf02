-- A worker and its turns.
pub mod BestSteps
pub mod Considering
pub mod Hand
pub mod Prepared
pub mod Putting
pub mod Standing
pub mod Thinking
pub mod Turn
