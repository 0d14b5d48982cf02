pub mod Charged
pub mod Extensions
pub mod Nodes
pub mod Raising
pub mod Restrictions
pub mod Spreads
pub mod Tables
