pub mod NamedFaces
pub mod Namings
pub mod Regrouped
pub mod Verdict
pub mod TriSectors
pub mod GroupsBase
