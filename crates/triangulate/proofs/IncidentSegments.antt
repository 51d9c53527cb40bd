pub mod AroundPoint
pub mod Chains
pub mod FirstOnSide
pub mod KeptEdges
