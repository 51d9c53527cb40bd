pub mod Counts
pub mod Compared
