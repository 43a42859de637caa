pub mod SumsLemmas
pub mod PlanLemmas
pub mod PairLemmas
pub mod GivenLemmas
pub mod DrivenLemmas
