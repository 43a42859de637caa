use Rattle.std.proofs.Common.{arith}
use Rattle.std.specs.List.{zip}
use Rattle.pb_check.proofs.FirstLemmas.{all_end, more, none_first}
use Rattle.pb_entry.specs.Fitting.{Gives, Lacks}
use Rattle.pb_entry.proofs.BoundLemmas.{lacks_apart}
use Rattle.pb_entry.proofs.PairLemmas.{pair_at, paired}
use Rattle.pb_entry.proofs.values.value_of.Goals as goal

pub loop-number-preserved : goal.loop-number-preserved
loop-number-preserved c =
    let matrices = c.args.matrices.now in
    let inputs = c.args.inputs.now in
    let at = pair_at matrices inputs c.loop-number.number c.index-matrices-number.result c.index-inputs-number.result c.requires.enough c.loop-number-test.true c.index-matrices-number.is c.index-inputs-number.is in
    more (Lacks c.args.size) (zip matrices inputs) c.loop-number.number (c.index-matrices-number.result, c.index-inputs-number.result) c.loop-number.invariant at c.in_default.ensures

pub returns : goal.returns
returns c =
    let gs = zip c.args.matrices.now c.args.inputs.now in
    let none = all_end (Lacks c.args.size) gs c.loop-number.number c.loop-number.invariant (omega (arith, paired c.args.matrices.now c.args.inputs.now c.requires.enough, c.loop-number-test.false)) in
    let v = c.requires.given in
    absurd (none_first (Lacks c.args.size) (λ number g. Gives c.args.size v.0 g) (lacks_apart c.args.size v.0) gs none v.1)
