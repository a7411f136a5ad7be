pub mod Bounds
-- what private functions promise one another
pub mod Flows
pub mod Cycles
pub mod PointHeights
pub mod Graphs
pub mod Residuals
pub mod Spans
pub mod Listings
pub mod Proposals
pub mod Phases
pub mod Workspaces
pub mod Cuts
pub mod Balances
