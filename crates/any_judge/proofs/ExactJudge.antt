pub mod Begun
pub mod Walked
pub mod Nodes
pub mod Told
pub mod AllHeard
pub mod Stages
pub mod Keeping
pub mod Intakes
