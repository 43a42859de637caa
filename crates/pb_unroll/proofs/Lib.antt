pub mod PlaceLemmas
pub mod TrapLemmas
pub mod TextLemmas
pub mod CallLemmas
pub mod AnswerLemmas
pub mod SyncLemmas
