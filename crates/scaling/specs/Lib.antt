pub mod Handles
pub mod Run
pub mod RunTrials
