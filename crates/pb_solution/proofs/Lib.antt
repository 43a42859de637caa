pub mod OutcomeLemmas
pub mod SmallLemmas
pub mod OrderLemmas
pub mod MayLemmas
pub mod PlanLemmas
pub mod RankLemmas
pub mod RuleLemmas
