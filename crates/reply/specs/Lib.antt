pub mod Shape
pub mod CallLaws
