pub mod Claim
pub mod Image
pub mod Leaves
pub mod Shape
pub mod Text
pub mod Tree
pub mod Valid
