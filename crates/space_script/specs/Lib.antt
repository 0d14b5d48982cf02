-- What the contracts of a script's commands and replies cite.
pub mod Command
pub mod Feeding
pub mod Field
pub mod Kept
pub mod Number
pub mod Refusal
pub mod Reply
pub mod Run
pub mod Session
pub mod Words
