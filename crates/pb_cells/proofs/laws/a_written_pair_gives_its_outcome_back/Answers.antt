use Rattle.pb_cells.proofs.WordLemmas.{outcome-back}
use Rattle.pb_cells.proofs.laws.a_written_pair_gives_its_outcome_back.Goals as goal

pub returns : goal.returns
returns c = outcome-back
