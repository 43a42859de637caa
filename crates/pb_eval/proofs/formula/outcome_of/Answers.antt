use Rattle.std.proofs.Common.{◌≡◌, ◌∙◌, ap, rules, to_z, of_z, w64}
use Rattle.pb_values.specs.declared.outcome.Outcome.TheVariants.{Value, Trapped}
use Rattle.pb_model.specs.Bodies.{at_first}
use Rattle.pb_eval.proofs.FirstCellLemmas.{tells_first, value_by_terms}
use Rattle.pb_eval.proofs.FormulaLemmas.{formula_gives, made_fault, made_value, trap_at}
use Rattle.pb_eval.proofs.HeldLemmas.{told_views}
use Rattle.pb_statements.proofs.ViewLemmas.{seen_none}
use Rattle.pb_eval.proofs.formula.outcome_of.Goals as goal

pub returns-in-Ok-clause-outcome : goal.returns-in-Ok-clause-outcome
returns-in-Ok-clause-outcome g c =
    let N = g.N.NamesTurn.turn in
    let same : to_z w64 (of_z w64 c.in-Ok.n) ≡ c.in-Ok.n = search rules in
    λ matrices sizes rule e views run cell f stands begin reads.
    ap (λ n. Value n) same ∙ made_value N sizes c.args.x c.args.y c.args.t c.args.r views e _ _ _ (seen_none N views c.requires.untrapped (told_views N views reads.small reads.told))
    (value_by_terms _ at_first e c.args.terms.now _ c.requires.terms.whole stands (c.cells_value.ensures.value _ at_first (tells_first N sizes c.args.x c.args.y views _ c.args.cells.now begin)) ∙ c.in-Ok.is)
    ∙ formula_gives N sizes c.args.x c.args.y c.args.t c.args.r views e matrices rule run cell f reads

pub returns-in-Err-clause-outcome : goal.returns-in-Err-clause-outcome
returns-in-Err-clause-outcome g c =
    let N = g.N.NamesTurn.turn in
    λ matrices sizes rule e views run cell f stands begin reads.
    ap (λ k. Trapped (trap_at c.args.x c.args.y c.args.t c.args.r k)) c.kind.ensures
    ∙ made_fault N sizes c.args.x c.args.y c.args.t c.args.r views e _ _ _ (seen_none N views c.requires.untrapped (told_views N views reads.small reads.told))
    (value_by_terms _ at_first e c.args.terms.now _ c.requires.terms.whole stands (c.cells_value.ensures.value _ at_first (tells_first N sizes c.args.x c.args.y views _ c.args.cells.now begin)) ∙ c.in-Err.is)
    ∙ formula_gives N sizes c.args.x c.args.y c.args.t c.args.r views e matrices rule run cell f reads
