-- What the contracts of counted readers and writers, of digits, of refusals and of exit statuses cite.
pub mod Counting
pub mod Devices
pub mod Digits
pub mod Number
pub mod Refusal
pub mod Status
pub mod Writing
