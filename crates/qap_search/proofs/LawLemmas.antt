-- The law of a search.
pub mod Replacing
pub mod SearchLaws
