pub mod Turned
pub mod Sunk
