pub mod Event
pub mod Law
pub mod Limit
pub mod Opening
pub mod Place
pub mod Refusals
pub mod Run
