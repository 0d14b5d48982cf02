pub mod Exclusions
pub mod Locations
pub mod Provings
pub mod Reasons
pub mod Values
