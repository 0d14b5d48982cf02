pub mod Runs
pub mod Sending
