pub mod Outcome
pub mod Given
pub mod Demand
pub mod TwoListings
