pub mod DigitLemmas
pub mod EndLemmas
pub mod LexemeLemmas
pub mod PieceLemmas
pub mod ReadLemmas
