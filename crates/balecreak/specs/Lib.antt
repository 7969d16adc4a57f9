pub mod Calls
pub mod CopyLaws
pub mod IntoLaws
