use Rattle.std.proofs.Common.{◌∙◌}
use Rattle.pb_program.specs.Trees.{bare_prog}
use Rattle.pb_trials.proofs.TunerLemmas.{are_sites}
use Rattle.pb_trials.proofs.tuner.said.Goals as goal

pub tune-requires-clause-sites : goal.tune-requires-clause-sites
tune-requires-clause-sites g c = are_sites (bare_prog c.args.p.now) c.in-Ok.config c.deref.result.now c.in-Ok.ensures.valid (c.deref.ensures.value ∙ c.in_ok-sites.ensures)
