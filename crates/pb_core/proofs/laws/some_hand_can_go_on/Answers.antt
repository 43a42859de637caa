use Rattle.std.proofs.Common.{subst, sym}
use Rattle.pb_core.specs.States.{State}
use Rattle.pb_core.specs.Sound.{IsSound}
use Rattle.pb_core.proofs.OnceLemmas.{end-sound}
use Rattle.pb_core.proofs.ProgressLemmas.{goes}
use Rattle.pb_core.proofs.laws.some_hand_can_go_on.Goals as goal

pub returns : goal.returns
returns c = λ p hands events s t plan enabled is. goes p plan s (subst (λ (state : State). IsSound p state) (sym is) (end-sound p plan hands events enabled)) t
