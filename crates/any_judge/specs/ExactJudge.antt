pub mod Heard
pub mod Ground
pub mod Trees
pub mod Stage
pub mod Judging
pub mod Judged
pub mod Intake
