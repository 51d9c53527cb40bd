pub mod Records
pub mod Answers
pub mod HexenLumps
