pub mod Lengths
pub mod Least
pub mod ReadingFields
pub mod Reading
