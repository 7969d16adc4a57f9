pub mod Ways
pub mod WaysLaws
pub mod Effects
pub mod EffectsLaws
