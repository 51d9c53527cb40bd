pub mod Fed
pub mod Judgement
