pub mod RayFault
pub mod CrossedLine
pub mod RayTrace
