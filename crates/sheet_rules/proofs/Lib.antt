pub mod Signed
pub mod Choices
pub mod Parts
