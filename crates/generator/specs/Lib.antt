pub mod Shifts
pub mod Seeds
