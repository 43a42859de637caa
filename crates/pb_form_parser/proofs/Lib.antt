pub mod BeginLemmas
mod DimLemmas
mod FormLemmas
mod NextLemmas
