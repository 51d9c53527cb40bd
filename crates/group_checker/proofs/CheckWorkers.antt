pub mod Joining
pub mod InParts
