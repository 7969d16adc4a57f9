pub mod InOrderLaws
pub mod RunEnds
pub mod WaitingLaws
