pub mod Layout
pub mod Extent
pub mod Figures
pub mod Files
pub mod Reading
