pub mod AscentRange
