pub mod Stops
pub mod Usage
pub mod Ran
