pub mod ListLemmas
pub mod MadeLemmas
pub mod SeatedLemmas
pub mod ShapeLemmas
pub mod EndLemmas
pub mod StepLemmas
pub mod GraphLemmas
pub mod Handed
