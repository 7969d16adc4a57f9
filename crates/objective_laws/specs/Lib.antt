pub mod ObjectiveCost
pub mod BuildLaws
pub mod FixLaws
