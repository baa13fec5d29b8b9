pub mod FirstBytes
pub mod ReadsEnough
