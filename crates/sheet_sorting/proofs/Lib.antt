pub mod Insertion
pub mod Rising
pub mod Indexed
