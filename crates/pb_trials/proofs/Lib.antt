pub mod TunerLemmas
