use Rattle.pb_runs.proofs.LinkLemmas.{cells_parts, parts_cells}
use Rattle.pb_runs.proofs.laws.the_parts_of_a_step_have_its_cells.Goals as goal

pub returns : goal.returns
returns c = λ p found config grain depth number ins h k s e n. (cells_parts p found config grain depth number ins h k s e n, λ part. parts_cells p found config grain depth number ins h k s e n part.0 part.1 part.2)
