pub mod Shows
pub mod Differing
pub mod Telling
pub mod MapList
