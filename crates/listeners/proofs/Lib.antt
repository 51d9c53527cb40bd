mod Backwards
mod Filling
mod InTurn
pub mod Turns
pub mod Heards
pub mod Reports
pub mod PairFindings
