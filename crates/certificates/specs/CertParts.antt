pub mod Parts
pub mod Left
pub mod Steps
pub mod Nodes
pub mod Beginning
pub mod Gathered
