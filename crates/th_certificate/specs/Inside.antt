pub mod Drafts
pub mod Reads
