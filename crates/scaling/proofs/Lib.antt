pub mod RunTrialsHold
pub mod RunLaws
