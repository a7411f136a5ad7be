pub mod Joins
pub mod Groupings
pub mod Distances
pub mod Places
pub mod Heights
pub mod Bends
pub mod Sizes
