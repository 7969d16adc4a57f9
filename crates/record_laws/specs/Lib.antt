pub mod Bytes
pub mod Damage
pub mod Fields
pub mod Ranges
pub mod RoundTrip
pub mod Seal
pub mod Steps
pub mod Sums
