use Rattle.std.proofs.Common.{◌≡◌, ◌∙◌, ◌+◌, ◌-◌, ◌*◌, sym, ap, map, take, drop, arith}
use Rattle.pb_model.specs.Equations.{number_in}
use Rattle.pb_unroll.proofs.TrapLemmas.{all_there, all_values}
use Rattle.pb_unroll.proofs.texts.numbers_there.Goals as goal

pub numbers-requires-clause-below : goal.numbers-requires-clause-below
numbers-requires-clause-below c = all_there c.args.outcomes.now c.args.view.now.first (c.args.view.now.shape.w * c.args.view.now.shape.h) c.requires.cells c.if-cells-eq0.false

pub returns-in-Some : goal.returns-in-Some
returns-in-Some c =
    let first = c.args.view.now.first in
    let n = c.args.view.now.shape.w * c.args.view.now.shape.h in
    let size : first + n - first ≡ n = omega arith in
    all_values c.in-Some.numbers.now ∙ ap (map number_in) (sym c.in-Some.ensures ∙ ap (λ k. take k (drop first c.args.outcomes.now)) size)
