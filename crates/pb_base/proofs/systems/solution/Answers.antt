use Rattle.std.proofs.Common.{Contains}
use Rattle.pb_base.proofs.SystemLemmas as lemma
use Rattle.pb_base.proofs.systems.solution.Goals as goal

pub returns : goal.returns
returns g c = λ s cells. lemma.solution s (Contains cells)
