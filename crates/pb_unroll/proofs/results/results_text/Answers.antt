use Rattle.std.proofs.Common.{◌≡◌, ◌∙◌, ℕ, List, subst, flat_map}
use Rattle.std.specs.Prelude.{IfOk}
use Rattle.pb_unroll.specs.Answers.{matrices_text, results_in}
use Rattle.pb_unroll.specs.ShownCells.{text_in}
use Rattle.pb_unroll.proofs.AnswerLemmas.{results_writable, texts_are}
use Rattle.pb_unroll.proofs.results.results_text.Goals as goal

pub texts_in-requires : goal.texts_in-requires
texts_in-requires c = rw (c.requires, c.outputs.ensures.views) (results_writable c.args.run.now c.outputs.ensures.running)

pub returns : goal.returns
returns c =
    let same : flat_map (text_in c.args.outcomes.now) c.outputs.result.now ≡ matrices_text (results_in c.args.run.now) =
    (λ i. flat_map (text_in (c.requires i)) (c.outputs.ensures.views i)) ∙ texts_are c.args.run.now c.outputs.ensures.running
    in
    subst (λ (bytes : List ℕ). IfOk c.texts_in.result (λ text. text.items ≡ bytes)) same c.texts_in.ensures
