use Rattle.pb_check.proofs.FirstLemmas.{all_at}
use Rattle.pb_entry.specs.Fitting.{HasDims, HasSides, given}
use Rattle.pb_entry.proofs.PairLemmas.{both_at}
use Rattle.pb_entry.proofs.laws.bound_inputs_fit_their_matrices.Goals as goal

pub returns : goal.returns
returns c t inputs sizes bound m d input at_d at_input =
    let at = both_at t.matrices inputs m d input at_d at_input in
    (all_at HasDims (given t inputs) m (d, input) bound.dims at, all_at (HasSides sizes) (given t inputs) m (d, input) bound.sides at)
