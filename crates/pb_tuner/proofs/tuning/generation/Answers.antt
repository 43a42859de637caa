use Rattle.std.proofs.Common.{subst, sym, ap, ◌∙◌}
use Rattle.pb_tuner.specs.Tuned.{After, AreAsked, IsNext, candidates}
use Rattle.pb_tuner.specs.Tuned.After.{generation}
use Rattle.pb_tuner.proofs.tuning.generation.Goals as goal

pub returns-clause-found : goal.returns-clause-found
returns-clause-found g c = λ up_to within after.
    let configs = c.in_ok-configs.ensures ∙ ap (candidates c.args.sites.now c.args.size) c.deref.ensures.value in
    let those = subst (λ configs. AreAsked c.args.size configs c.in_ok-asked.asked.items) configs c.in_ok-asked.ensures.asked in
    let next = subst (λ asked. IsNext c.args.population.items asked c.in_ok-next.next.items) c.deref-2.ensures.value c.in_ok-next.ensures in
    subst (After c.args.sites.now up_to _ _) (sym c.in_ok-append.ensures.items) (generation after within those next)
