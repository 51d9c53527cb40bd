pub mod Walkable
pub mod Finding
pub mod Path
pub mod Thinner
pub mod Made
pub mod Going
pub mod Left
