pub mod LineLemmas
mod TraceExample
pub mod GraphLemmas
pub mod OwnerLemmas
pub mod TableLemmas
pub mod TurnLemmas
pub mod PlanLemmas
pub mod SerialLemmas
pub mod OrderLemmas
pub mod KnownLemmas
pub mod PackedLemmas
