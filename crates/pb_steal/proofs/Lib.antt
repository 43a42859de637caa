pub mod DequeLemmas
pub mod TakeLemmas
pub mod ReleaseLemmas
pub mod RunLemmas
pub mod TurnLemmas
pub mod DealLemmas
