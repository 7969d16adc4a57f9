pub mod DueLaws
pub mod QueueLaws
pub mod StepLaws
pub mod InOrder
pub mod RunEnds
pub mod FuelLaws
pub mod RemainingLaws
pub mod WaitingLaws
