pub mod FaceLists
pub mod NamingOrder
pub mod Numbers
pub mod RegroupedPlan
pub mod Runs
pub mod Verdicts
pub mod TriSectors
pub mod GroupsBase
