use Rattle.std.proofs.Common.{◌≡◌, ◌∙◌, refl, ap, subst, List, ◌++◌, length, map, Some, slice_get, arith}
use Rattle.std.specs.List.{enumerate_from, flat_map}
use Rattle.std.proofs.lemmas.List.{length-map}
use Rattle.pb_linear.specs.Sizes.{sizes_of}
use Rattle.pb_program.specs.Rules.{RuleValue}
use Rattle.pb_program.specs.Transforms.{TransformValue}
use Rattle.pb_program.specs.Trees.{bare_prog, bare_rule, bare_transform}
use Rattle.pb_region.proofs.RuleLemmas.{held_at}
use Rattle.pb_frame.proofs.ListLemmas.{flat_after, flat_all}
use Rattle.pb_cost.specs.Planned.{rule_calls}
use Rattle.pb_cost.proofs.calls.calls_of.Goals as goal

pub loop-k-preserved : goal.loop-k-preserved
loop-k-preserved c =
    let rule = c.index.result.now in
    let held = ap (λ (v : TransformValue). v.rules) c.t.view_is in
    let there = subst (λ (rs : List RuleValue). slice_get (map bare_rule rs) c.loop-k.k ≡ Some (bare_rule rule)) held (held_at bare_rule c.t.inside.rules.items c.loop-k.k rule (omega (arith, c.loop-k-test.true, c.len-k-end.ensures)) c.index.ensures) in (
      flat_after (rule_calls (bare_prog c.args.prog.now) (bare_transform c.args.t.now) (sizes_of c.args.s.now) c.args.parts.now) (map bare_rule c.args.t.now.rules) c.loop-k.k (bare_rule rule) c.new-all.result.items c.loop-k.all.items c.add_rule.new.all.items _ there c.loop-k.invariant.0 c.in_ok-add_rule.ensures.calls refl,
      c.in_ok-add_rule.ensures.can c.loop-k.invariant.1,
    )

pub returns-clause-calls : goal.returns-clause-calls
returns-clause-calls c =
    let f = rule_calls (bare_prog c.args.prog.now) (bare_transform c.args.t.now) (sizes_of c.args.s.now) c.args.parts.now in
    let rules = map bare_rule c.args.t.now.rules in
    let all = ap (λ (v : TransformValue). length v.rules) c.t.view_is in
    flat_all f rules c.loop-k.k c.new-all.result.items c.loop-k.all.items (omega (arith, c.loop-k-test.false, c.len-k-end.ensures, length-map c.args.t.now.rules bare_rule, all)) c.loop-k.invariant.0
    ∙ ap (λ l. l ++ flat_map f (enumerate_from 0 rules)) c.new-all.ensures.items
