pub mod SelectionLemmas
pub mod ValidLemmas
pub mod GenerationLemmas
pub mod OneTuningLemmas
pub mod SomeTuningLemmas
