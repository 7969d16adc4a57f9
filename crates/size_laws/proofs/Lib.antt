pub mod NarrowWithin
pub mod PassSizes
pub mod RunWithin
