pub mod Marks
pub mod Records
pub mod There
pub mod RoundTrip
pub mod Example
