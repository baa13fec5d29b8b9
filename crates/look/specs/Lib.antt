pub mod Ends
pub mod Tracks
pub mod Counts
