-- Lemmas of `pb_names`, handed on.
pub use Rattle.pb_names.proofs.LawLemmas.{no_two, same_program, same_refusal, some_answer}
pub use Rattle.pb_names.proofs.TransformsFit.{well_formed}
