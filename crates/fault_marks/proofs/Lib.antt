pub mod Around
pub mod Clashes
pub mod OneMarks
