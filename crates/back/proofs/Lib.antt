pub mod ListLaws
pub mod PlanTurns
