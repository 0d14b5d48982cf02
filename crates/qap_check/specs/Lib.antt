pub mod Answering
pub mod Optimal
pub mod Refusal
pub mod Source
pub mod Valuation
