pub mod Deciding
pub mod PlanSizes
pub mod OneTable
pub mod OneOutcome
pub mod Refusing
pub mod Telling
pub mod Changing
pub mod Stopping
