pub mod FitLaws
pub mod SeedLaws
pub mod Seeds
