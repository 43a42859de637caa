use Rattle.std.proofs.Common.{◌≢◌, ◌<◌, arith, length}
use Rattle.std.proofs.lemmas.List.{get_or-set_other, get_or-set_same, length-set}
use borrow.Author.Count.{below_more}
use Rattle.pb_linear.proofs.form.Form.greatest_sizes.Goals as goal

pub loop-i-preserved : goal.loop-i-preserved
loop-i-preserved c =
    let i = c.loop-i.i in
    let inside : i < length c.loop-i.of = omega arith in
    record {
      full = rw length-set c.loop-i.invariant.full;
      greatest = below_more _ i (λ k h. let other : k ≢ i = omega arith in rw get_or-set_other (c.loop-i.invariant.greatest k h)) (rw get_or-set_same c.greatest_size.ensures);
      rest = λ k h. let other : k ≢ i = omega arith in rw get_or-set_other (c.loop-i.invariant.rest k (omega arith));
    }
