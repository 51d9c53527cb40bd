pub mod Gates
pub mod Rows
pub mod Exact
pub mod Bits
pub mod Laws
pub mod Reaching
pub mod GateMasks
pub mod RowJudge
