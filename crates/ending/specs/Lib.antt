pub mod Ended
pub mod Finished
