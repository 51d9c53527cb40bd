pub mod TextTokens
pub mod TextNumbers
pub mod Parts
pub mod Told
pub mod Grammar
