pub mod Drawn
pub mod Lines
pub mod Plan
pub mod Row
pub mod Heat
pub mod Faults
pub mod Pair
pub mod Laws
