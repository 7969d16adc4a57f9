pub mod Course
pub mod CourseLaws
pub mod Blocks
pub mod BlocksLaws
