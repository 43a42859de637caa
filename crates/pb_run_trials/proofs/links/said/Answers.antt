use Rattle.std.proofs.Common.{refl}
use Rattle.pb_run_trials.proofs.links.said.Goals as goal

pub links-requires-clause-bases : goal.links-requires-clause-bases
links-requires-clause-bases c = c.if-not-can_be_linked.ensures.within refl
