pub mod Entry
pub mod Lines
pub mod Totals
pub mod Listing
