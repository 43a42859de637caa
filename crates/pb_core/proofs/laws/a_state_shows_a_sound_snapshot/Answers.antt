use Rattle.std.proofs.Common.{subst, sym}
use Rattle.pb_core.specs.States.{State, first_state}
use Rattle.pb_core.specs.Events.{all_happen}
use Rattle.pb_core.specs.Sound.{IsSound}
use Rattle.pb_core.proofs.OnceLemmas.{end-sound}
use Rattle.pb_core.proofs.OrderLemmas.{finished-order, lawful-order}
use Rattle.pb_core.proofs.SnapshotLemmas.{shows-sound}
use Rattle.pb_core.proofs.laws.a_state_shows_a_sound_snapshot.Goals as goal

pub returns-clause-snapshot : goal.returns-clause-snapshot
returns-clause-snapshot c = λ p hands events plan enabled. shows-sound p plan (all_happen p (first_state p hands) events) (end-sound p plan hands events enabled)

pub returns-clause-order : goal.returns-clause-order
returns-clause-order c = λ p hands events s plan enabled is. finished-order p s (subst (λ (state : State). IsSound p state) (sym is) (end-sound p plan hands events enabled))

pub returns-clause-lawful : goal.returns-clause-lawful
returns-clause-lawful c = λ p hands events s plan enabled is finished. lawful-order p s (subst (λ (state : State). IsSound p state) (sym is) (end-sound p plan hands events enabled)) finished
