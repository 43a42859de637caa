use Rattle.pb_core.proofs.FirstLemmas.{first-sound}
use Rattle.pb_core.proofs.KeepLemmas.{keeps}
use Rattle.pb_core.proofs.laws.an_enabled_event_keeps_a_state_sound.Goals as goal

pub returns-clause-first : goal.returns-clause-first
returns-clause-first c = λ p hands plan. first-sound p plan hands

pub returns-clause-event : goal.returns-clause-event
returns-clause-event c = λ p s e plan sound enabled. keeps p plan s sound e enabled
