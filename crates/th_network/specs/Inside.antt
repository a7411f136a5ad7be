pub mod Neighbours
pub mod Marks
pub mod Reached
pub mod Numbered
pub mod Sites
pub mod Linked
