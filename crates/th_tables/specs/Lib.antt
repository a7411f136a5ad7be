pub mod Limits
pub mod Rows
pub mod Fields
pub mod Tables
pub mod Texts
