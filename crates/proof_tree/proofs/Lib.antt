pub mod Greatest
pub mod Images
pub mod Leaves
pub mod Multiples
pub mod Reaching
pub mod Remainders
pub mod Splits
pub mod Validity
