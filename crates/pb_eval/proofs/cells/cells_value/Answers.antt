use Rattle.std.proofs.Common.{◌≡◌, ◌∙◌, ap, rules, to_z, of_z, w64}
use Rattle.pb_eval.specs.Terms.{TermsValue}
use Rattle.pb_eval.proofs.FirstCellLemmas.{terms_are}
use Rattle.pb_eval.proofs.cells.cells_value.Goals as goal

pub returns-clause-value : goal.returns-clause-value
returns-clause-value g c b st tells =
    let same : to_z w64 (of_z w64 c.cell_number-first.result) ≡ c.cell_number-first.result = search rules in
    terms_are b st c.args.terms.now c.terms.inside.first c.deref.result.now c.cell_number-first.result _ c.cell_steps.result (ap (λ (t : TermsValue). t.first) c.terms.view_is) (c.deref.ensures.value ∙ ap (λ (t : TermsValue). t.rest) c.terms.view_is) same
    (c.cell_number-first.ensures.value b st tells) (c.cell_steps.ensures.value b st tells)
