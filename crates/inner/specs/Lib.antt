pub mod Slots
pub mod Cells
pub mod Whole
