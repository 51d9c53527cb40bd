pub mod Slipping
pub mod Telling
