pub mod Giving
pub mod FarVertices
pub mod Judging
pub mod Handles
pub mod KeptBuilds
pub mod Saying
pub mod Auditing
pub mod Texts
