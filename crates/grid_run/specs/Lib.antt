pub mod GridRolled
pub mod Exchanged
pub mod Demand
