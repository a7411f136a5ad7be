pub mod Countings
pub mod Entries
pub mod Effects
pub mod Feeds
pub mod Witnesses
