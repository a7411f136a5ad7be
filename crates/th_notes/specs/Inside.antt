pub mod Sets
pub mod Sightings
