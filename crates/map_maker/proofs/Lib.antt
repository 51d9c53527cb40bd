pub mod Small
pub mod Printing
pub mod Whole
pub mod Hashed
pub mod Short
