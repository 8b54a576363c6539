pub mod Refused
pub mod Padded
