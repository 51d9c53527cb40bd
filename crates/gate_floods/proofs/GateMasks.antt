pub mod Bits
pub mod AtSide
pub mod Gathering
pub mod Flooding
pub mod Masking
pub mod Claiming
pub mod Keeping
pub mod Behind
