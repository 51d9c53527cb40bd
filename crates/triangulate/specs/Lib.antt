pub mod Left
pub mod IncidentSegments
pub mod GreedySegments
pub mod GroupLaws
