pub mod Outcome
pub mod TheRoll
