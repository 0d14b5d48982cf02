pub mod Page
pub mod Pairs
pub mod Rows
