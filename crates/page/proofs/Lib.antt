pub mod Putting
pub mod Answered
