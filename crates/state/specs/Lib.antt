pub mod Counting
pub mod Steps
pub mod StepsLaws
pub mod HeldLaws
pub mod Joins
pub mod JoinsLaws
pub mod WaitersLaws
pub mod Holds
