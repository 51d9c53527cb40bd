pub mod Counts
pub mod Findings
pub mod FirstSet
pub mod Listening
pub mod Reporters
pub mod Texts
pub mod Told
pub mod PairFindings
