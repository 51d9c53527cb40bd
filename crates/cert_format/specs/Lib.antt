pub mod Parts
pub mod Sizes
pub mod Grammar
pub mod Reading
pub mod Accepted
pub mod Pieces
pub mod CertGroups
