pub mod Records
pub mod SameMap
