pub mod OpenedLemmas
pub mod OutputLemmas
mod OverwriteLemmas
