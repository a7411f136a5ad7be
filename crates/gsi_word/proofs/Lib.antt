pub mod NameLemmas
pub mod SpellingLaw
pub mod Spellings
pub mod WrittenWords
