pub mod Dampers
pub mod State
pub mod Doors
pub mod Routes
pub mod Search
pub mod Steps
pub mod Counts
