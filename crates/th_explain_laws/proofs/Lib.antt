mod TieLemmas
mod WrongLemmas
mod LeftOutLemmas
mod EntryLemmas
mod BenchmarkLemmas
mod Examples
mod OrderLemmas
mod PrintedLemmas
mod OneWrongLemmas
mod LeadLemmas
mod GapLemmas
mod Word33Lemmas
pub mod EndedLines
pub mod RowLemmas
pub mod LastLemmas
pub mod ForceLemmas
pub mod WordLemmas
pub mod EditLemmas
pub mod AddedLemmas
pub mod LineLemmas
pub mod NameLemmas
pub mod SpelledLemmas
pub mod PairLemmas
pub mod HeightLemmas
pub mod TableLemmas
pub mod StandingLemmas
pub mod BookLemmas
pub mod MendedLemmas
pub mod SingleLemmas
pub mod TypedLemmas
