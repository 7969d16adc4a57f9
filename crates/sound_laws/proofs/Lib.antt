pub mod SoundThen
pub mod SoundReductions
pub mod SoundRun
pub mod SoundEnded
