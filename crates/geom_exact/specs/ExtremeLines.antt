pub mod Differences
pub mod Spans
