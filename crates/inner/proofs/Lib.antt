pub mod ScanLaws
pub mod SlotLaws
pub mod LeftLaws
pub mod Giving
pub mod CellLaws
