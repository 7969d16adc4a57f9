pub mod Outcomes
pub mod WriteLaws
pub mod Bounds
pub mod OutcomeLaws
pub mod CallLaws
