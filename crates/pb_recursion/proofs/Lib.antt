pub mod ShapeLemmas
pub mod DepthLemmas
pub mod OrderedLemmas
mod EnterLemmas
