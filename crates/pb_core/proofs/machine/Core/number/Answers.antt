use Rattle.std.proofs.Common.{◌∙◌, ap, get_or}
use Rattle.pb_core.specs.declared.progress.Progress.{Progress}
use Rattle.pb_core.specs.Cores.{CoreValue, state_of, untouched}
use Rattle.pb_core.proofs.machine.Core.number.Goals as goal

pub returns : goal.returns
unfolding state_of
returns g c = ap (λ (a : Progress). a.number) (c.progress_of.ensures ∙ ap (λ l. get_or l c.args.task untouched) c.deref.ensures.value) ∙ ap (λ (v : CoreValue). (get_or v.tasks c.args.task untouched).number) c.self.view_is
