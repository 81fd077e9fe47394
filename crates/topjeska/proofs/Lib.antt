pub mod OptionLaws
pub mod ExportLaws
