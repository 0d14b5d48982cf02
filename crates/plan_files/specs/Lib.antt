pub mod Begun
pub mod Outputs
pub mod Reading
pub mod Refused
pub mod Searched
pub mod Sources
pub mod Starting
