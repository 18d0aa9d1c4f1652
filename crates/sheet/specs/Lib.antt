pub mod Counts
pub mod Parts
pub mod Sheets
pub mod Views
