pub mod MarkLaws
pub mod ReadLaws
pub mod EntryLaws
pub mod ThereLaws
pub mod WriteLaws
pub mod RoundTrip
pub mod Example
