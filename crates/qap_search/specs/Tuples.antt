-- The tuples of a search.
pub mod DecidedTuples
pub mod Found
pub mod Piece
