pub mod Own
pub mod Verdict
pub mod Tallies
pub mod Report
pub mod Verdicts
pub mod MapList
