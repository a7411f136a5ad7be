pub mod LevelLemmas
pub mod TableLemmas
pub mod TrailLemmas
