pub mod Words
pub mod Gates
pub mod Following
pub mod Flood
pub mod Masks
pub mod Laws
pub mod Behind
