pub mod Bound
pub mod Line
pub mod LineText
pub mod Number
pub mod Numeral
pub mod Writing
