pub mod Rows
pub mod Owning
pub mod Masking
pub mod Pairs
pub mod Judged
pub mod ExactWorkers
