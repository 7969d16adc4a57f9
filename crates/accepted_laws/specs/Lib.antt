pub mod Accept
pub mod Mass
pub mod Small
pub mod Rows
pub mod Answers
