pub mod Words
pub mod Masks
pub mod Asked
pub mod Path
pub mod Judged
pub mod Laws
