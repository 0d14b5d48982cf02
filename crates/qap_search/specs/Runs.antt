-- Runs of a search.
pub mod Answer
pub mod Interleaving
pub mod Opening
pub mod Outcome
pub mod Ran
pub mod Seat
