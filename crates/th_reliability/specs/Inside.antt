-- what private functions promise one another
pub mod Graphs
pub mod Sides
pub mod Blamed
pub mod Targets
pub mod Runs
pub mod Bounds
pub mod Effects
pub mod Ends
