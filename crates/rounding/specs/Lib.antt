pub mod Nearest
-- the nearest computed, and how large the code's numbers are: nobody need believe these
pub mod Computed
