pub mod Answer
pub mod Apart
pub mod Layout
pub mod Names
pub mod Proved
pub mod Refusal
pub mod Stated
pub mod Telling
