pub mod NodesLaws
pub mod TreesLaws
pub mod HeaderLaws
pub mod GroupTrees
pub mod ExactLaws
pub mod PieceLaws
