pub mod Bridge
pub mod Paths
pub mod Places
pub mod Crossings
pub mod Rays
pub mod Plans
pub mod StepOff
pub mod SightLaws
