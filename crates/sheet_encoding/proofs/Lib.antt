pub mod Fields
pub mod Run
pub mod Forms
