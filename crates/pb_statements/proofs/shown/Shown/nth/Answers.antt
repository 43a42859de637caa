use Rattle.std.proofs.Common.{◌≡◌, ◌∙◌, rules, to_z, of_z, w64}
use Rattle.pb_statements.proofs.CellLemmas.{nth_flat, nth_there}
use Rattle.pb_statements.proofs.shown.Shown.nth.Goals as goal

pub returns-then-height-eq1-clause-number : goal.returns-then-height-eq1-clause-number
returns-then-height-eq1-clause-number g c =
    let same : to_z w64 (of_z w64 c.number.result) ≡ c.number.result = search rules in
    same ∙ c.number.ensures.number ∙ nth_flat _ _ _ c.args.i c.height.result c.height.ensures c.if-height-eq1.true c.requires.inside

pub returns-clause-number : goal.returns-clause-number
returns-clause-number g c =
    let same : to_z w64 (of_z w64 c.number-2.result) ≡ c.number-2.result = search rules in
    same ∙ c.number-2.ensures.number ∙ nth_there _ _ _ c.args.i c.width.result c.width-2.result c.width.ensures c.width-2.ensures c.requires.inside
