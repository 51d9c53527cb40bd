pub mod Numbers
pub mod EachLine
pub mod EachTriangle
pub mod Reached
