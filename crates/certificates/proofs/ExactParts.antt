pub mod Settling
pub mod OneNode
pub mod Order
pub mod First
pub mod State
pub mod Stretches
pub mod MoreBytes
pub mod FromFront
