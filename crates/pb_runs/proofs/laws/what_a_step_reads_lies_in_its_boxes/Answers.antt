use Rattle.pb_runs.proofs.LinkLemmas.{reads_boxed}
use Rattle.pb_runs.proofs.laws.what_a_step_reads_lies_in_its_boxes.Goals as goal

pub returns : goal.returns
returns c = λ p found config grain depth number ins h k s e n reading. reads_boxed p found config grain depth number ins h k s e n reading
