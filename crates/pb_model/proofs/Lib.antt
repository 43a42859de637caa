pub mod LawfulLemmas
pub mod ReadLemmas
pub mod ChosenLemmas
pub mod BodyExamples
pub mod GridLemmas
pub mod CallLemmas
pub mod FitLemmas
