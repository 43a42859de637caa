use Rattle.std.proofs.Common.{arith}
use Rattle.std.specs.List.{zip}
use Rattle.pb_check.proofs.FirstLemmas.{all_end, more}
use Rattle.pb_entry.specs.Fitting.{HasDims}
use Rattle.pb_entry.proofs.PairLemmas.{pair_at, paired}
use Rattle.pb_entry.proofs.dims.check_dims.Goals as goal

pub loop-number-preserved : goal.loop-number-preserved
loop-number-preserved c =
    let matrices = c.args.matrices.now in
    let inputs = c.args.inputs.now in
    let at = pair_at matrices inputs c.loop-number.number c.index-matrices-number.result c.index-inputs-number.result c.requires.enough c.loop-number-test.true c.index-matrices-number.is c.index-inputs-number.is in
    more HasDims (zip matrices inputs) c.loop-number.number (c.index-matrices-number.result, c.index-inputs-number.result) c.loop-number.invariant at c.in_ok-input_dims.ensures.fits

pub returns-clause-fits : goal.returns-clause-fits
returns-clause-fits c =
    all_end HasDims (zip c.args.matrices.now c.args.inputs.now) c.loop-number.number c.loop-number.invariant (omega (arith, paired c.args.matrices.now c.args.inputs.now c.requires.enough, c.loop-number-test.false))
