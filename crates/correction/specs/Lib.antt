pub mod Corrected
pub mod Spoken
