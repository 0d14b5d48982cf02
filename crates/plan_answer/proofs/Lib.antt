pub mod Kept
pub mod PairLines
pub mod Putting
pub mod Moves
