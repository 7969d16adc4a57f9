pub mod RecordSound
pub mod ByCalls
pub mod ByBlock
