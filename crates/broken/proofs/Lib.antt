pub mod Decided
pub mod MarkLaws
pub mod Places
pub mod Ranges
