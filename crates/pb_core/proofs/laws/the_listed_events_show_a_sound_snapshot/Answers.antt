use Rattle.pb_core.proofs.InterleavingLemmas.{interleaves}
use Rattle.pb_core.proofs.ListedLemmas.{listed-enabled, listed-shows}
use Rattle.pb_core.proofs.ShownLemmas.{run-shows}
use Rattle.pb_core.proofs.laws.the_listed_events_show_a_sound_snapshot.Goals as goal

pub returns-clause-enabled : goal.returns-clause-enabled
returns-clause-enabled c = λ p q plan good. listed-enabled p plan q good

pub returns-clause-shows : goal.returns-clause-shows
returns-clause-shows c = λ p q plan good. listed-shows p plan q good

pub returns-clause-interleaving : goal.returns-clause-interleaving
returns-clause-interleaving c = λ p q plan good. interleaves p plan q good

pub returns-clause-run : goal.returns-clause-run
returns-clause-run c = λ p q run plan good runs. run-shows p q run plan good runs
