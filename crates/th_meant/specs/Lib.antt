pub mod Limits
pub mod Slips
pub mod Ranges
pub mod Meant
pub mod Keyed
pub mod Named
pub mod Doubted
pub mod Inside
