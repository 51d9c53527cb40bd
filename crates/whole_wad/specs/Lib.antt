pub mod Sizes
pub mod Built
pub mod Tables
pub mod Rejects
pub mod Outcomes
pub mod Stop
pub mod Report
pub mod Whole
