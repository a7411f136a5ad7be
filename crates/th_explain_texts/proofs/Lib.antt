pub mod CostLemmas
pub mod TextLemmas
pub mod RankLemmas
pub mod NumberLemmas
mod StayLemmas
