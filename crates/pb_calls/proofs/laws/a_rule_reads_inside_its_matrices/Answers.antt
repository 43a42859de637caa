use Rattle.pb_calls.proofs.InsideLemmas.{reads_inside}
use Rattle.pb_calls.proofs.laws.a_rule_reads_inside_its_matrices.Goals as goal

pub returns : goal.returns
returns c = λ p number t sizes well sound at. reads_inside p number t sizes well sound at
