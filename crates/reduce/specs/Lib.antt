pub mod Gives
pub mod GivesLaws
