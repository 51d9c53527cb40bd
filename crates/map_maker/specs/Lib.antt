pub mod Lines
pub mod Lumps
