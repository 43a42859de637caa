use Rattle.pb_cells.proofs.StepLemmas.{value-step}
use Rattle.pb_cells.proofs.laws.a_written_value_stays.Goals as goal

pub returns : goal.returns
returns c = value-step
