pub mod MeasureLaws
pub mod ExamineLaws
