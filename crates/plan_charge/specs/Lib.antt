pub mod Charges
pub mod Extended
pub mod Forbidden
pub mod Forbidding
pub mod Restricted
pub mod Spread
