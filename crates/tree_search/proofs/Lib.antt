pub mod Leaves
pub mod Limits
pub mod Values
