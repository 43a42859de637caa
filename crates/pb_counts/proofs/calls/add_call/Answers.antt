use Rattle.std.proofs.Common.{◌∙◌, sym, ap, List, [], ◌∷◌, ◌++◌}
use Rattle.std.specs.Option.{option_map}
use Rattle.pb_linear.specs.Sizes.{sizes_of}
use Rattle.pb_program.specs.Plans.{PlanCallValue}
use Rattle.pb_program.specs.Trees.{bare_prog, bare_rule, bare_transform}
use Rattle.pb_recursion.specs.Counts.{both}
use Rattle.pb_counts.specs.Gathered.{Entered, GatheredValue}
use Rattle.pb_counts.specs.Tallies.{capped, counted}
use Rattle.pb_counts.proofs.CallLemmas.{can, comes, fails}
use Rattle.pb_counts.proofs.calls.add_call.Goals as goal

pub returns-in_ok-push-in-Some-clause-more : goal.returns-in_ok-push-in-Some-clause-more
returns-in_ok-push-in-Some-clause-more c =
    comes (bare_prog c.args.prog.now) (bare_transform c.args.t.now) (sizes_of c.args.s.now) (bare_rule c.args.rule.now) c.args.call.now c.args.deep c.args.g.now (record { tally = counted c.g.inside.tally; next = c.push.new.self.items })
    (sizes_of c.in-Some.sizes) (sym c.in_ok-sizes.ensures ∙ ap (option_map sizes_of) c.in-Some.is) (ap (λ (g : GatheredValue). g.tally) c.g.view_is)
    (c.in_ok-push-in-Some.ensures.items ∙ ap (λ (l : List Entered). l ++ (c.call.inside.transform, sizes_of c.in-Some.sizes) ∷ []) (ap (λ (g : GatheredValue). g.next) c.g.view_is)
    ∙ ap (λ (v : PlanCallValue). c.args.g.now.next ++ (v.transform, sizes_of c.in-Some.sizes) ∷ []) c.call.view_is)

pub returns-in_ok-push-in-Some-clause-next : goal.returns-in_ok-push-in-Some-clause-next
returns-in_ok-push-in-Some-clause-next c =
    can (bare_prog c.args.prog.now) (bare_transform c.args.t.now) (sizes_of c.args.s.now) (bare_rule c.args.rule.now) c.args.call.now c.args.deep c.args.g.now (record { tally = counted c.g.inside.tally; next = c.push.new.self.items })
    (sizes_of c.in-Some.sizes) (sym c.in_ok-sizes.ensures ∙ ap (option_map sizes_of) c.in-Some.is)
    (c.in_ok-push-in-Some.ensures.items ∙ ap (λ (l : List Entered). l ++ (c.call.inside.transform, sizes_of c.in-Some.sizes) ∷ []) (ap (λ (g : GatheredValue). g.next) c.g.view_is)
    ∙ ap (λ (v : PlanCallValue). c.args.g.now.next ++ (v.transform, sizes_of c.in-Some.sizes) ∷ []) c.call.view_is)

pub returns-in-None-clause-more : goal.returns-in-None-clause-more
returns-in-None-clause-more c =
    fails (bare_prog c.args.prog.now) (bare_transform c.args.t.now) (sizes_of c.args.s.now) (bare_rule c.args.rule.now) c.args.call.now c.args.deep c.args.g.now (record { tally = counted c.both-g-inside.result; next = c.g.inside.next.items })
    (counted c.failed_call.result) (sym c.in_ok-sizes.ensures ∙ ap (option_map sizes_of) c.in-None.is) (c.failed_call.ensures (bare_prog c.args.prog.now))
    (c.both-g-inside.ensures ∙ ap (λ (g : GatheredValue). capped (both g.tally (counted c.failed_call.result))) c.g.view_is) (ap (λ (g : GatheredValue). g.next) c.g.view_is)
