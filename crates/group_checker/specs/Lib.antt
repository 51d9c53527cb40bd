pub mod Meshes
pub mod Lists
pub mod Members
pub mod Judged
pub mod Grouping
pub mod CheckWorkers
