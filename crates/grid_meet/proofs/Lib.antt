pub mod Looks
pub mod Walk
