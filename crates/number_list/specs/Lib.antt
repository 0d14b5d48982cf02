pub mod NumberList
pub mod Numbers
pub mod Turns
