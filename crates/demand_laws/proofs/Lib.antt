pub mod Theorems
pub mod LeastLaws
