-- The tuples of a search.
pub mod Fields
pub mod Found
pub mod TupleReadings
pub mod Written
