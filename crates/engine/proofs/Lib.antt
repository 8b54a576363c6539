pub mod CallLaws
pub mod LockLaws
pub mod GoesOn
