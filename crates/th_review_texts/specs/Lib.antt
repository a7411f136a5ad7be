pub mod Tables
pub mod Heads
pub mod Largest
pub mod Reviews
pub mod Texts
