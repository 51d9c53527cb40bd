pub mod Wad
pub mod Map
pub mod Print
pub mod Kept
pub mod WadRewrite
pub mod AllMaps
