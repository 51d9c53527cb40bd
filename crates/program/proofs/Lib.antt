pub mod Running
pub mod Reporting
