pub mod CostSteps
pub mod Fronts
pub mod Streams
pub mod Verdicts
