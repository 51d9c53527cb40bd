pub mod Frame
pub mod Scale
pub mod Crossings
pub mod Picture
pub mod Bytes
pub mod Chains
pub mod Laws
