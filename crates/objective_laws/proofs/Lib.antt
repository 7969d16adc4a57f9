pub mod FixedCost
pub mod Theorems
