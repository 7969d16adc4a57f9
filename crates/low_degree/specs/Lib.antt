pub mod Table
pub mod TableLaws
pub mod AbsorbLaws
