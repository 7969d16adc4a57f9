pub mod Seen
pub mod ReadLaws
pub mod LineLaws
pub mod PlaceLaws
pub mod Examples
