pub mod Cutting
pub mod Digits
pub mod NumberLaw
pub mod Scanning
