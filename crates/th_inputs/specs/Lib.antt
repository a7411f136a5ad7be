pub mod Shown
pub mod Inputs
pub mod Sums
