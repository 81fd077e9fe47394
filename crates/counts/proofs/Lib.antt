pub mod WaysLaws
pub mod TableLaws
pub mod StepLaws
