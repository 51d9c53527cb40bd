pub mod Answer
pub mod Chains
pub mod Portals
pub mod Stacks
pub mod History
pub mod Barred
pub mod Turning
pub mod Sleeves
