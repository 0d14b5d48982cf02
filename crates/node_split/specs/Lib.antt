pub mod Branch
pub mod Evaluation
pub mod Parent
pub mod Prepared
pub mod Split
