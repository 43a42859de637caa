use Rattle.pb_core.proofs.FewLemmas.{few}
use Rattle.pb_core.proofs.laws.there_are_few_events.Goals as goal

pub returns : goal.returns
returns c = λ p hands events plan. few p plan hands events
