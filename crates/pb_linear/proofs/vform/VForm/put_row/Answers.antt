use Rattle.std.proofs.Common.{◌≡◌, ◌≢◌, ◌<◌, length, get_or, pos, to_z, of_z, arith}
use mir.Syntax.{w128}
use Rattle.std.proofs.lemmas.Int.{ints}
use Rattle.std.proofs.lemmas.List.{ext_get_or, get_or-set_other, get_or-set_same, length-set}
use Rattle.std.proofs.lemmas.Result.{err_from_is_err_and}
use borrow.Author.Count.{below_more}
use Rattle.pb_linear.specs.Numbers.{row_combination}
use Rattle.pb_linear.proofs.Rows.{row_combination-at, length-row_combination, first_over-at}
use Rattle.pb_linear.proofs.vform.VForm.put_row.Goals as goal

pub returns-in_err-row-clause-over_limit : goal.returns-in_err-row-clause-over_limit
returns-in_err-row-clause-over_limit c =
    let v = c.args.self.now in
    let exact = row_combination c.args.rest.now v.x c.args.x.now v.y c.args.y.now in
    let full = length-row_combination c.args.rest.now v.x c.args.x.now v.y c.args.y.now (omega arith) (omega arith) (omega arith) in
    let at = row_combination-at c.args.rest.now v.x c.args.x.now v.y c.args.y.now c.loop-i.i in
    let same : to_z w128 (of_z w128 c.put_number.result) ≡ get_or exact c.loop-i.i (pos 0) = omega (arith, ints) in
    let p = err_from_is_err_and c.from_residual.result c.from_residual.ensures.1 in
    rw (p.1, p.2) (first_over-at exact c.loop-i.i _ (omega arith) c.loop-i.invariant.small (rw same at c.in_err-row.ensures.over_limit))

pub loop-i-preserved : goal.loop-i-preserved
loop-i-preserved c =
    let i = c.loop-i.i in
    let v = c.args.self.now in
    let exact = row_combination c.args.rest.now v.x c.args.x.now v.y c.args.y.now in
    let at = row_combination-at c.args.rest.now v.x c.args.x.now v.y c.args.y.now i in
    let same : to_z w128 (of_z w128 c.put_number.result) ≡ get_or exact i (pos 0) = omega (arith, ints) in
    let inside : i < length c.loop-i.row = omega arith in
    record {
      full = rw length-set c.loop-i.invariant.full;
      value = below_more _ i (λ k h. let other : k ≢ i = omega arith in rw get_or-set_other (c.loop-i.invariant.value k h)) (rw get_or-set_same (omega (arith, ints, c.in_ok-row.ensures.value)));
      small = below_more _ i c.loop-i.invariant.small (rw (← same, ← c.in_ok-row.ensures.value) c.in_ok-row.ensures.small);
    }

pub returns-clause-value : goal.returns-clause-value
returns-clause-value c =
    let v = c.args.self.now in
    ext_get_or (pos 0) _ _ (omega (arith, length-row_combination c.args.rest.now v.x c.args.x.now v.y c.args.y.now (omega arith) (omega arith) (omega arith))) (λ k h. c.loop-i.invariant.value k (omega arith))
