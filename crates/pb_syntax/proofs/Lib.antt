pub mod SignLemmas
pub mod TestLemmas
