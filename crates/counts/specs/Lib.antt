pub mod Ways
pub mod Table
