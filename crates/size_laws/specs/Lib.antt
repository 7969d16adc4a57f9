pub mod Values
pub mod ValueLaws
pub mod Sizes
pub mod SumSizes
