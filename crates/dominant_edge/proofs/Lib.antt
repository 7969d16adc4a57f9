pub mod Finding
pub mod Giving
