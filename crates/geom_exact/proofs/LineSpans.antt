pub mod Filling
pub mod Sweep
