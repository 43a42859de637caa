pub mod AskLemmas
pub mod LineLemmas
pub mod NumberLemmas
pub mod OptionLemmas
