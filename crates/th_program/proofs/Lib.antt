pub mod ListLemmas
pub mod BookLemmas
pub mod CauseLemmas
pub mod RefusalLemmas
pub mod CheckLemmas
mod ExplainedLemmas
pub mod RunLemmas
pub mod InputLemmas
pub mod OverwriteLemmas
pub mod HeadlineLemmas
pub mod PlaceLemmas
mod NoteLemmas
mod RanLemmas
mod AcceptedLemmas
