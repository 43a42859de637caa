use Rattle.std.proofs.Common.{sym, subst, ◌∙◌}
use Rattle.std.specs.List.{AllByRecursion}
use Rattle.pb_program.specs.Configs.{IsSite}
use Rattle.pb_program.specs.Trees.{bare_prog}
use Rattle.pb_top.proofs.SiteLemmas.{sites_are}
use Rattle.pb_top.proofs.tune.tune_transform.Goals as goal

pub tune-requires-clause-sites : goal.tune-requires-clause-sites
tune-requires-clause-sites c =
    let p = bare_prog c.args.a.now.program in
    let accepted = c.prog.ensures.accepted in
    let are = sites_are p c.args.a.now.found accepted.well_formed accepted.found in
    let those = subst (AllByRecursion (IsSite p)) (sym (c.deref.ensures.value ∙ c.in_ok-sites.ensures)) are in
    subst (λ q. AllByRecursion (IsSite (bare_prog q)) c.deref.result.now) (sym c.prog.ensures.program) those
