mod Versions
mod Promises
mod Courses
pub mod ExactJudge
pub mod CertFile
