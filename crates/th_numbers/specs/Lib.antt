pub mod Candidates
pub mod Lists
pub mod Ties
pub mod Inside
pub mod Readings
