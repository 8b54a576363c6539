pub mod Entries
pub mod Readings
pub mod Cells
