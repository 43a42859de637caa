use Rattle.std.proofs.Common.{◌∙◌, sym}
use Rattle.pb_model.specs.Bodies.{at_first}
use Rattle.pb_eval.specs.Moving.{cells_at}
use Rattle.pb_eval.proofs.FirstCellLemmas.{tells_first, value_by_terms}
use Rattle.pb_eval.proofs.FormulaLemmas.{formula_gives, made_value}
use Rattle.pb_eval.proofs.HeldLemmas.{told_views}
use Rattle.pb_eval.proofs.SumLemmas.{some_else}
use Rattle.pb_statements.proofs.ViewLemmas.{seen_none}
use Rattle.pb_eval.proofs.formula.sum_at.Goals as goal

pub returns-clause-outcome : goal.returns-clause-outcome
returns-clause-outcome g c =
    let N = g.N.NamesTurn.turn in
    some_else c.small_sum.result
    (λ n value t r x y ms terms matrices sizes rule e views is whole run cell f stands begin reads.
    made_value N sizes x y t r views e _ _ _ (seen_none N views c.requires.untrapped (told_views N views reads.small reads.told))
    (value_by_terms _ at_first e terms _ whole stands (sym (value ms terms _ at_first is (tells_first N sizes x y views _ (cells_at ms c.args.place) begin))))
    ∙ formula_gives N sizes x y t r views e matrices rule run cell f reads)
    c.small_sum.ensures.value
