pub mod CellIds
pub mod Ends
pub mod Listed
pub mod Waiting
