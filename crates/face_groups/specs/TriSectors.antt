pub mod Classes
pub mod Forest
pub mod Components
pub mod Faces
pub mod Labels
pub mod Sides
pub mod Verdict
