pub mod Accepted
pub mod Judged
pub mod Version
pub mod Versed
pub mod Course
pub mod Judge
pub mod ExactJudge
pub mod CertFile
