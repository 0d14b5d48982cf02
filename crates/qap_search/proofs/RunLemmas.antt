-- Runs of the search, and what they leave.
pub mod BehindAnswers
pub mod Fronts
pub mod Identities
pub mod Outcomes
pub mod ScheduledRuns
