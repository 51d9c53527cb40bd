pub mod WholeTree
pub mod Spelling
