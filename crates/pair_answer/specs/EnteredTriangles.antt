pub mod Marks
pub mod Entered
pub mod Stops
pub mod Walks
pub mod Answer
pub mod Laws
