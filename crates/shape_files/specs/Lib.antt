pub mod Boxing
pub mod Exported
