pub mod ErrorLemmas
pub mod LineLemmas
