pub mod Numbers
pub mod Kinds
pub mod HalfEdges
pub mod Corners
