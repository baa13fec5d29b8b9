-- accepted sheets, and what their runs leave
pub mod Sheets
pub mod Runs
-- what each reader relies on
pub mod Desk
pub mod CellView
pub mod Layers
pub mod Mapping
pub mod Partners
pub mod Archive
