pub mod Key
pub mod State
