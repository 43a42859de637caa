pub mod OnceLemmas
pub mod PieceLemmas
pub mod PlanLemmas
