use Rattle.std.proofs.Common.{◌≡◌, ◌∙◌, arith, ◌∷◌, ◌+◌, ◌*◌, [], ap, length, subst, sym}
use Rattle.pb_run_trials.specs.Sums.{AreSums}
use Rattle.pb_run_trials.proofs.SumsLemmas.{row-cells}
use Rattle.pb_run_trials.proofs.sums.Sums.first_cell.Goals as goal

pub returns : goal.returns
returns c =
    let w = c.args.self.now in
    let s = subst AreSums c.self.view_is c.self.invariant in
    let next : 2 * c.from.result + 3 ≡ 2 * c.from.result + 2 + 1 = omega arith in
    row-cells (length w.graph.tasks) w.graph s.row c.args.task c.requires ∙ ap (λ t. (2 * t + 2) ∷ (2 * t + 3) ∷ []) (sym c.from.ensures) ∙ ap (λ k. (2 * c.from.result + 2) ∷ k ∷ []) next
