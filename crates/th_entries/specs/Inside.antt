pub mod Counts
pub mod Watches
pub mod Oddities
pub mod Running
pub mod Seen
pub mod Tallies
