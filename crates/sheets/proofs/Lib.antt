pub mod PlaceLaws
pub mod HeadLaws
pub mod SheetLaws
pub mod ReadLaws
pub mod Example
