pub mod Sheets
pub mod Reads
pub mod Cases
pub mod Example
