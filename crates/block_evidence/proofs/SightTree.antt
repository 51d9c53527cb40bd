pub mod UTree
pub mod ReadBack
