pub mod Exact
pub mod FarNumbers
pub mod OnWay
pub mod Spelled
pub mod Standing
pub mod Units
