pub mod SoundLaws
pub mod ModelLaws
pub mod ReadLaws
pub mod LeaveLaws
pub mod ChangeLaws
pub mod ScanLaws
pub mod ThrowLaws
