pub mod BestLemmas
pub mod NextLemmas
pub mod OrderLemmas
pub mod PairLemmas
pub mod PlaceLemmas
pub mod SortLemmas
pub mod StretchLemmas
pub mod SweepLemmas
mod WalkExample
pub mod WalkLemmas
