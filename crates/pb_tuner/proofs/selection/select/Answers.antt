use Rattle.std.proofs.Common.{◌≡◌, take, ◌∙◌, arith}
use Rattle.std.specs.Map.{values_of}
use Rattle.std.proofs.lemmas.Bool.{iff_false}
use Rattle.std.proofs.lemmas.Result.{IfOk-weaker}
use Rattle.pb_tuner.specs.Tuned.{IsNext}
use Rattle.pb_tuner.proofs.SelectionLemmas.{some_selected}
use Rattle.pb_tuner.proofs.selection.select.Goals as goal

pub returns : goal.returns
returns c =
    let ranking = c.in_ok-ranking.ranking.entries in
    let some = iff_false c.is_empty.ensures c.if-is_empty.false in
    IfOk-weaker c.cheapest.result (λ members. members.items ≡ take 4 (values_of ranking)) (λ next. IsNext c.args.population.items c.args.asked.now next.items)
    (λ next first. record { ranking = ranking; ranked = c.in_ok-ranking.ensures; kept = first ∙ some_selected c.args.population.items ranking (omega (arith, some)) })
    c.cheapest.ensures
