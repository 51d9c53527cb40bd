pub mod Rays
pub mod Trees
pub mod Rounds
pub mod Table
pub mod Built
