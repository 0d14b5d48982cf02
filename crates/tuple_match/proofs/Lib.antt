pub mod Deciding
pub mod FieldLemmas
pub mod MatchingLemmas
