pub mod BracketLemmas
pub mod ExplainLemmas
pub mod ReachLemmas
pub mod MendedLemmas
pub mod PushLemmas
pub mod MistakeLemmas
