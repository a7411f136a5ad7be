pub mod CountedWords
pub mod RefusedLengths
pub mod EntryLemmas
pub mod Faultless
pub mod Running
pub mod Keeping
mod EffectLemmas
pub mod Soundness
mod Holding
mod Observing
pub mod Reading
pub mod FeedLemmas
pub mod Seeing
mod BlockLines
mod Idle
