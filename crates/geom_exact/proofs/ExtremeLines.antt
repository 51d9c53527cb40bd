pub mod Values
pub mod Widening
pub mod Cutting
pub mod Balance
pub mod EndsLemmas
