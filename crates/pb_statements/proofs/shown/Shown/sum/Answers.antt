use Rattle.std.proofs.Common.{◌≡◌, ◌<◌, ◌∙◌, sym, rules, arith, to_z, of_z, w64}
use Rattle.pb_statements.specs.Places.{grid_shown, height_of}
use Rattle.pb_statements.proofs.SumLemmas.{rows_end, rows_err, rows_none, rows_ok}
use Rattle.pb_statements.proofs.shown.Shown.sum.Goals as goal

pub returns-then-width-eq0-clause-sum : goal.returns-then-width-eq0-clause-sum
unfolding grid_shown
returns-then-width-eq0-clause-sum g c = sym (rows_none _ _ _ (sym c.width.ensures ∙ c.if-width-eq0.true))

pub returns-in-Err-clause-sum : goal.returns-in-Err-clause-sum
unfolding grid_shown
returns-in-Err-clause-sum g c =
    let inside : c.loop-y.y < height_of c.args.self.now = omega (arith, c.height-y-end.ensures) in
    rows_err _ _ _ _ _ c.in-Err.kind inside (sym c.sum_row.ensures.sum ∙ c.in-Err.is) ∙ c.loop-y.invariant.sum

pub loop-y-preserved : goal.loop-y-preserved
loop-y-preserved g c =
    let next : to_z w64 (of_z w64 c.in-Ok.next) ≡ c.in-Ok.next = search rules in
    let inside : c.loop-y.y < height_of c.args.self.now = omega (arith, c.height-y-end.ensures) in
    record {
      sum = rows_ok _ _ _ _ _ _ _ inside next (sym c.sum_row.ensures.sum ∙ c.in-Ok.is) ∙ c.loop-y.invariant.sum;
      same_reference = c.sum_row.ensures.same_reference ∙ c.loop-y.invariant.same_reference;
    }

pub returns-clause-sum : goal.returns-clause-sum
unfolding grid_shown
returns-clause-sum g c = sym (rows_end _ _ _ _ _ (omega (arith, c.height-y-end.ensures))) ∙ c.loop-y.invariant.sum
