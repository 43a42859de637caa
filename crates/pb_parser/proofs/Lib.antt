mod Answers
mod DeclLemmas
mod ProgramLemmas
mod RuleLemmas
pub mod Handed
