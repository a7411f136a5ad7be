mod LineLemmas
pub mod FindingLemmas
mod UseLemmas
mod PartLemmas
mod PartLaws
