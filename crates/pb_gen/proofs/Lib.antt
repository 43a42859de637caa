pub mod MatrixLemmas
mod StreamLemmas
