pub mod Rays
pub mod Ground
pub mod Lines
