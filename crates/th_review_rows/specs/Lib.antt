pub mod Words
pub mod Entries
pub mod Rows
pub mod Weak
pub mod Found
