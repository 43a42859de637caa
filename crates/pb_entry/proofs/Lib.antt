pub mod BoundLemmas
pub mod LawLemmas
pub mod NamedLemmas
pub mod PairLemmas
pub mod RowLemmas
pub mod SideLemmas
pub mod SomeLemmas
