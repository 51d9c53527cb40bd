pub mod Counted
pub mod Listing
