mod Answerings
pub mod Behind
pub mod Comes
