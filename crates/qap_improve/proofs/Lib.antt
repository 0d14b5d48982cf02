mod Arrangements
mod Contrasts
mod Costs
mod DoubleSums
pub mod Exchanges
mod FacilityTables
mod Movings
mod Ranges
mod Readings
mod Rounds
mod RowProducts
mod Tables
mod Updates
