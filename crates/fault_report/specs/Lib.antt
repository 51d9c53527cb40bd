pub mod Clashes
pub mod Json
pub mod Lines
pub mod Report
pub mod Rows
pub mod Slips
