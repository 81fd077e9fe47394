pub mod ShowLaws
pub mod LookLaws
pub mod SeekLaws
pub mod TestedLaws
