pub mod Arrows
pub mod Marks
