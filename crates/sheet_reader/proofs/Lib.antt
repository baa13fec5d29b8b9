pub mod Items
pub mod Turns
pub mod Walking
pub mod Scanning
pub mod Loading
