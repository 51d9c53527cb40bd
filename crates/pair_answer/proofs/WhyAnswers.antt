pub mod Joined
pub mod Saying
