pub mod Ordering
pub mod FewLines
pub mod Judging
