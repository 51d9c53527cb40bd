pub mod Status
pub mod Answer
pub mod Texts
pub mod Say
