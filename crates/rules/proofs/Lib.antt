pub mod TrialsHold
pub mod EachEffect
pub mod Scanning
