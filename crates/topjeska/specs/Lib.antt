pub mod Options
pub mod Exports
