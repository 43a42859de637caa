pub mod CanonicalExample
pub mod FormLemmas
pub mod TreeLemmas
pub mod WriterLemmas
