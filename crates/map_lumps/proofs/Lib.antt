pub mod Reading
pub mod Checking
pub mod Numbering
pub mod Assembling
pub mod WholeMap
pub mod HexenLumps
