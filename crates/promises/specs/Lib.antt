-- what each reader relies on, as statements about the calls
pub mod Desk
pub mod CellView
pub mod Layers
-- the runs and the rows that they leave, of which the last three speak
pub mod Runs
pub mod Mapping
pub mod Partners
pub mod Archive
