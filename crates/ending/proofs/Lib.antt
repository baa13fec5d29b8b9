pub mod Endings
pub mod Ended
pub mod Ends
pub mod Rolling
