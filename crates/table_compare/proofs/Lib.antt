pub mod Counting
pub mod Alone
pub mod Places
pub mod OneKind
