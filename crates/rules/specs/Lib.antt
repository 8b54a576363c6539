pub mod Scans
pub mod States
pub mod State
pub mod Locking
pub mod Calls
pub mod Step
pub mod Trials
pub mod Effects
