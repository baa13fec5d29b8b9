pub mod OwnTrack
pub mod Ways
