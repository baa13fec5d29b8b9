pub mod Behind
pub mod Rows
pub mod Answer
