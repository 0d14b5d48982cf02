pub mod Trivials
