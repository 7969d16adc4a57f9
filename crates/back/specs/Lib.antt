pub mod Calls
pub mod SoundRecord
pub mod RefusalLaws
pub mod Accepted
pub mod PlayTurns
pub mod PlayMasks
