mod GrammarLemmas
mod ReadLemmas
