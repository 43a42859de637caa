use Rattle.std.proofs.Common.{◌≡◌, ◌<◌, ◌∙◌, sym, rules, arith, to_z, of_z, w64}
use Rattle.pb_statements.specs.Places.{width_of}
use Rattle.pb_statements.proofs.SumLemmas.{row_err, row_ok, summed_same}
use Rattle.pb_statements.proofs.shown.Shown.sum_row.Goals as goal

pub returns-in-Err-clause-sum : goal.returns-in-Err-clause-sum
returns-in-Err-clause-sum g c =
    let same : to_z w64 (of_z w64 c.number.result) ≡ c.number.result = search rules in
    let before : to_z w64 (of_z w64 c.args.before) ≡ c.args.before = search rules in
    let inside : c.loop-x.x < width_of c.args.self.now = omega (arith, c.width-x-end.ensures) in
    summed_same _ _ _ _ before (row_err _ _ _ _ _ _ c.in-Err.kind inside (same ∙ c.number.ensures.number) (sym c.plus.ensures ∙ c.in-Err.is) ∙ c.loop-x.invariant.sum)

pub loop-x-preserved : goal.loop-x-preserved
loop-x-preserved g c =
    let same : to_z w64 (of_z w64 c.number.result) ≡ c.number.result = search rules in
    let next : to_z w64 (of_z w64 c.in-Ok.next) ≡ c.in-Ok.next = search rules in
    let inside : c.loop-x.x < width_of c.args.self.now = omega (arith, c.width-x-end.ensures) in
    record {
      sum = row_ok _ _ _ _ _ _ _ _ inside (same ∙ c.number.ensures.number) next (sym c.plus.ensures ∙ c.in-Ok.is) ∙ c.loop-x.invariant.sum;
      same_reference = c.number.ensures.same_reference ∙ c.loop-x.invariant.same_reference;
    }
