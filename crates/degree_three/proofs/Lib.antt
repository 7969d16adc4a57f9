pub mod Entries
pub mod Taking
pub mod Parting
pub mod Weights
pub mod Absorbing
