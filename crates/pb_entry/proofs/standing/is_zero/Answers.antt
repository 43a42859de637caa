use Rattle.std.proofs.Common.{◌≡◌, pos, refl}
use Rattle.std.proofs.lemmas.List.Elements.{All-more, recursion_from_All}
use Rattle.pb_check.proofs.FirstLemmas.{all_end}
use Rattle.pb_entry.proofs.RowLemmas.{zero_is}
use Rattle.pb_entry.proofs.standing.is_zero.Goals as goal

pub loop-coefficient-preserved : goal.loop-coefficient-preserved
loop-coefficient-preserved c = All-more (λ z. z ≡ pos 0) c.args.row.now c.loop-coefficient.coefficient-index (pos 0) c.loop-coefficient-test.true c.loop-coefficient.invariant (zero_is _ (c.requires c.loop-coefficient.coefficient-index (pos 0) c.loop-coefficient-test.true) c.if-coefficient-ne0.false)

pub returns : goal.returns
returns c = (λ h. recursion_from_All (λ z. z ≡ pos 0) c.args.row.now (all_end (λ z. z ≡ pos 0) c.args.row.now c.loop-coefficient.coefficient-index c.loop-coefficient.invariant c.loop-coefficient-test.false), λ h. refl)
