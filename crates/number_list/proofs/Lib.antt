pub mod Equal
pub mod Orders
pub mod Turns
