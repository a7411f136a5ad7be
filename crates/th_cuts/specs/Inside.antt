-- what private functions promise one another
pub mod CutTrees
pub mod Flows
pub mod Guides
pub mod Trees
pub mod Paths
pub mod OfFlows
pub mod Merges
