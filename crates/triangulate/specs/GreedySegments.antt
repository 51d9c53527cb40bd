pub mod Crossed
pub mod Extents
pub mod Pairs
pub mod Rounds
pub mod Saturated
pub mod Searched
