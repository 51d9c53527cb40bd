pub mod IndexLemmas
pub mod MeetLemmas
pub mod Separate
pub mod RuleLemmas
pub mod SweepRules
pub mod HalfEdges
