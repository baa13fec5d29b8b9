pub mod Passages
pub mod InFront
pub mod Placed
