mod BodyLemmas
mod DrivenLemmas
mod LayoutLemmas
