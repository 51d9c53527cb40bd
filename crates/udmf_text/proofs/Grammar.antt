pub mod Explained
pub mod Places
pub mod Tokens
pub mod Reads
