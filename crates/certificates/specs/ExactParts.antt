pub mod Parts
pub mod Left
pub mod Steps
pub mod Nodes
pub mod Front
pub mod Beginning
