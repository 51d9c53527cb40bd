pub mod Incident
pub mod Kept
pub mod Neighbours
pub mod Next
