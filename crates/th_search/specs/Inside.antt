-- what private functions promise one another
pub mod Bounds
pub mod Entries
pub mod Labels
pub mod Marks
pub mod Passes
pub mod DistanceLabels
pub mod Spreading
