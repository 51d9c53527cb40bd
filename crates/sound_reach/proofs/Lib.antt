pub mod Lookups
pub mod Searching
pub mod Firsts
pub mod Mapped
pub mod Heards
pub mod Adding
pub mod OneNoise
