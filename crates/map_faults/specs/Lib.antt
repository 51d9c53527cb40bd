pub mod Clashes
pub mod Corners
pub mod EdgeSides
pub mod Gaps
pub mod LooseEnds
pub mod OpenSides
pub mod Tears
