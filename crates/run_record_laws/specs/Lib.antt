pub mod HeldSteps
pub mod RunRecord
pub mod ByCalls
