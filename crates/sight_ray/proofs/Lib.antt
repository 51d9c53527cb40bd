pub mod CrossedLineLemmas
pub mod HitLemmas
pub mod FaultLemmas
pub mod RayTrace
