pub mod Adding
pub mod Opening
pub mod OverRoot
pub mod Streams
pub mod Versions
