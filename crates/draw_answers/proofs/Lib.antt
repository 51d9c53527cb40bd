pub mod Making
pub mod Points
pub mod Joins
pub mod Rows
pub mod Flawed
pub mod Pairs
pub mod Telling
pub mod Closing
