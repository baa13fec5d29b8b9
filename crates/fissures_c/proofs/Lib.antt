pub mod Reached
pub mod Stepped
