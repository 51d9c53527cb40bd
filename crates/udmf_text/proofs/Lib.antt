pub mod TextTokens
pub mod TextNumbers
pub mod Shorter
pub mod ToldSteps
pub mod Grammar
