pub mod Grammar
pub mod Reading
pub mod Pieces
pub mod CertParts
pub mod CertExact
pub mod ExactParts
