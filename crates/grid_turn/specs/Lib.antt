pub mod Reached
pub mod Turned
