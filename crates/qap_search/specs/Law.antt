-- What holds for the tuples of a search at any moment.
pub mod CutTree
pub mod Replacement
pub mod Search
pub mod SearchLaw
pub mod SearchTree
