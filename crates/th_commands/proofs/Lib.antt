pub mod CommandLemmas
pub mod LimitLemmas
pub mod PlanLemmas
pub mod StreamLemmas
