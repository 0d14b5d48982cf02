pub mod Texts
pub mod Unwritten
