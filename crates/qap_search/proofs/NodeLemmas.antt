-- A node of the search.
pub mod Deciding
pub mod LeastDuals
pub mod NodeLists
pub mod Thoughts
