pub mod Keys
pub mod Based
pub mod LookingAgain
pub mod Beginning
pub mod Turning
