pub mod Owed
pub mod Outputs
pub mod Stops
pub mod Opened
