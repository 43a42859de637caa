use Rattle.std.proofs.Common.{◌≡◌, refl, ap, length, map, arith}
use Rattle.std.proofs.lemmas.List.{length-map}
use Rattle.pb_program.specs.Transforms.{TransformValue}
use Rattle.pb_program.specs.Trees.{bare_prog, bare_rule, bare_transform}
use Rattle.pb_region.specs.Rules.{IsAccepted}
use Rattle.pb_check.proofs.BoundLemmas.{next_rule}
use Rattle.pb_check.proofs.FirstLemmas.{all_end}
use Rattle.pb_check.proofs.bounds.rules_bounds.Goals as goal

pub loop-r-preserved : goal.loop-r-preserved
loop-r-preserved c =
    let same = ap (λ (t : TransformValue). length t.rules) c.transform.view_is in
    let long : length (map bare_rule c.args.transform.now.rules) ≡ length c.args.transform.now.rules = rw length-map refl in
    next_rule (bare_prog c.args.p.now) c.args.t (bare_transform c.args.transform.now) c.loop-r.r c.loop-r.invariant c.in_ok-rule_bounds.ensures.found c.requires.there
    (omega (arith, same, long, c.len-r-end.ensures, c.loop-r-test.true))

pub returns-clause-found : goal.returns-clause-found
returns-clause-found c =
    let same = ap (λ (t : TransformValue). length t.rules) c.transform.view_is in
    let long : length (map bare_rule c.args.transform.now.rules) ≡ length c.args.transform.now.rules = rw length-map refl in
    all_end (IsAccepted (bare_transform c.args.transform.now)) (bare_transform c.args.transform.now).rules c.loop-r.r c.loop-r.invariant (omega (arith, same, long, c.len-r-end.ensures, c.loop-r-test.false))
