pub mod Answering
pub mod Larger
pub mod Naming
pub mod Parts
pub mod Refusal
pub mod Texts
