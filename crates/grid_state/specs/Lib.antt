pub mod Sweep
pub mod State
pub mod Run
pub mod Meeting
pub mod ToDo
