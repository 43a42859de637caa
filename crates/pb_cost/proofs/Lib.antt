pub mod SumLemmas
pub mod DepthLemmas
pub mod KnownLemmas
pub mod BlankLemmas
pub mod ChosenLemmas
pub mod LookLemmas
pub mod LimitLemmas
