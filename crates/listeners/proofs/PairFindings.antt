pub mod Counted
pub mod Places
pub mod Rows
pub mod Telling
