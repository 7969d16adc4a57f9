pub mod Sound
pub mod Ascending
pub mod SoundRun
pub mod SoundStart
