pub mod Seen
pub mod ReadLaws
pub mod Puts
pub mod WriteLaws
pub mod Back
