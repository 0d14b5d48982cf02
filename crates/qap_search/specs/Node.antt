-- A node of the search.
pub mod Decision
pub mod Free
pub mod NodeList
pub mod Thought
