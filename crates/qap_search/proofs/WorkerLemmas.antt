-- A worker of the search.
pub mod BestSteps
pub mod Preparing
pub mod Standings
pub mod Thinkings
pub mod Turns
