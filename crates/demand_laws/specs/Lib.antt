pub mod Demands
pub mod Places
pub mod Plans
pub mod Outputs
pub mod RunEnds
pub mod Behind
