pub mod OneSpelling
pub mod Again
pub mod CertParts
pub mod CertExact
pub mod ExactParts
