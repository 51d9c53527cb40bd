pub mod Shape
pub mod Index
pub mod Faults
pub mod Search
pub mod Fills
pub mod HalfEdges
