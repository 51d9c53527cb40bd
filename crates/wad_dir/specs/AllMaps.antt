pub mod Maps
pub mod Asked
pub mod Places
pub mod All
pub mod Spliced
pub mod Names
