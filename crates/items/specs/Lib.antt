pub mod Items
pub mod Numerals
