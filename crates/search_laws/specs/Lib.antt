pub mod Paths
pub mod PathLaws
pub mod CutLaws
pub mod NoneFound
pub mod Search
