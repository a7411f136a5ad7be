pub mod Limits
pub mod Indexes
pub mod Bytes
pub mod Words
pub mod Names
pub mod Values
pub mod Inside
