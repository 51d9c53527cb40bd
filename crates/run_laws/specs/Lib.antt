pub mod Laws
pub mod Headline
pub mod Pairs
pub mod Verified
