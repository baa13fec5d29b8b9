pub mod Entries
pub mod Search
pub mod Inside
pub mod Parts
pub mod Written
pub mod Lookup
pub mod Examples
