pub mod TableLemmas
pub mod FaultLaws
pub mod WeightLemmas
