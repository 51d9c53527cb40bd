pub mod Rewrite
pub mod Lumps
pub mod Again
