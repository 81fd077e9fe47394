pub mod Known
pub mod Checked
