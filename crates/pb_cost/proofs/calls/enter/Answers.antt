use Rattle.std.proofs.Common.{◌∙◌, sym, ap, subst}
use Rattle.std.specs.Option.{option_map}
use Rattle.pb_linear.specs.Sizes.{sizes_of}
use Rattle.pb_program.specs.Plans.{PlanCallValue}
use Rattle.pb_program.specs.Trees.{bare_prog, bare_rule, bare_transform}
use Rattle.pb_counts.specs.Gathered.{CanCome}
use Rattle.pb_counts.proofs.CallLemmas.{can_come}
use Rattle.pb_cost.proofs.calls.enter.Goals as goal

pub returns-in-Some-clause-can : goal.returns-in-Some-clause-can
returns-in-Some-clause-can c =
    let p = bare_prog c.args.prog.now in
    let ss = sizes_of c.in-Some.sizes in
    subst (λ (v : PlanCallValue). CanCome p (v.transform, ss)) (sym c.call.view_is)
    (can_come p (bare_transform c.args.t.now) (sizes_of c.args.s.now) (bare_rule c.args.rule.now) c.args.call.now ss (sym c.in_ok-sizes.ensures ∙ ap (option_map sizes_of) c.in-Some.is))
