pub mod OnWay
pub mod Promises
pub mod Whole
