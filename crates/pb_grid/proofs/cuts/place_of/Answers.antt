use Rattle.std.proofs.Common.{◌∙◌, ap, sym, arith}
use Rattle.std.proofs.lemmas.List.Sums.{position_or_len_is}
use Rattle.pb_grid.proofs.ListLemmas.{get_or_either}
use Rattle.pb_linear.specs.Sizes.{leasts_of}
use Rattle.pb_grid.specs.Cuts.{le}
use Rattle.pb_grid.proofs.cuts.place_of.Goals as goal

pub returns-then-is_at_most-clause-found : goal.returns-then-is_at_most-clause-found
returns-then-is_at_most-clause-found c =
    sym (position_or_len_is (le (leasts_of c.args.ranges.now) c.args.form.now) c.args.cuts.now c.loop-place.place c.args.form.now (omega arith) c.loop-place.invariant (λ h. ap (le (leasts_of c.args.ranges.now) c.args.form.now) (get_or_either c.args.cuts.now c.loop-place.place c.args.form.now c.index-cuts-place.result h c.index-cuts-place.is) ∙ sym c.is_at_most.ensures ∙ c.if-is_at_most.true))

pub returns-clause-found : goal.returns-clause-found
returns-clause-found c =
    sym (position_or_len_is (le (leasts_of c.args.ranges.now) c.args.form.now) c.args.cuts.now _ c.args.form.now (omega arith) (λ k h. c.loop-place.invariant k (omega arith)) (λ h. absurd (omega arith)))
