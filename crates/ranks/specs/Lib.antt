pub mod Standing
pub mod Kinds
