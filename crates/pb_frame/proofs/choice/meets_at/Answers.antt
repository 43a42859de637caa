use Rattle.std.proofs.Common.{◌≡◌, ◌∙◌, List, ap, length, map, subst, sym, arith}
use Rattle.std.specs.Prelude.{None, Some, slice_get, false}
use Rattle.std.specs.Option.{option_map_or}
use Rattle.std.proofs.lemmas.List.{length-map}
use Rattle.std.proofs.lemmas.Option.{slice_get_past}
use Rattle.pb_linear.specs.Sizes.{sizes_of}
use Rattle.pb_program.specs.Forms.{DeclValue}
use Rattle.pb_program.specs.Rules.{RuleValue}
use Rattle.pb_program.specs.Transforms.{TransformValue}
use Rattle.pb_program.specs.Trees.{bare_rule, bare_transform}
use Rattle.pb_region.proofs.RuleLemmas.{held_at}
use Rattle.pb_region.specs.Small.{IsSmallRule}
use Rattle.pb_check.proofs.FirstLemmas.{all_at}
use Rattle.pb_frame.specs.Choices.{meets}
use Rattle.pb_frame.proofs.ChoiceLemmas.{met_there}
use Rattle.pb_frame.proofs.choice.meets_at.Goals as goal

pub meets-requires-clause-small : goal.meets-requires-clause-small
meets-requires-clause-small c =
    let t = c.args.transform.now in
    let held : c.deref.result.now ≡ t.rules = c.deref.ensures.value ∙ ap (λ (x : TransformValue). x.rules) c.transform.view_is in
    let there : slice_get (map bare_rule t.rules) c.args.k ≡ Some (bare_rule c.in-Some.rule.now) = subst (λ (rs : List RuleValue). slice_get (map bare_rule rs) c.args.k ≡ Some (bare_rule c.in-Some.rule.now)) held (held_at bare_rule c.deref.result.now c.args.k c.in-Some.rule.now c.in-Some.ensures.lookup.3.0 c.in-Some.ensures.lookup.1) in
    all_at IsSmallRule (map bare_rule t.rules) c.args.k (bare_rule c.in-Some.rule.now) c.requires.small there

pub returns-in-Some : goal.returns-in-Some
returns-in-Some c =
    let t = c.args.transform.now in
    let sizes = sizes_of c.args.s.now in
    let held : c.deref.result.now ≡ t.rules = c.deref.ensures.value ∙ ap (λ (x : TransformValue). x.rules) c.transform.view_is in
    let there : slice_get (map bare_rule t.rules) c.args.k ≡ Some (bare_rule c.in-Some.rule.now) = subst (λ (rs : List RuleValue). slice_get (map bare_rule rs) c.args.k ≡ Some (bare_rule c.in-Some.rule.now)) held (held_at bare_rule c.deref.result.now c.args.k c.in-Some.rule.now c.in-Some.ensures.lookup.3.0 c.in-Some.ensures.lookup.1) in
    let matrices : c.deref-in-Some.result.now ≡ t.matrices = c.deref-in-Some.ensures.value ∙ ap (λ (x : TransformValue). x.matrices) c.transform.view_is in
    c.meets.ensures ∙ ap (λ (ms : List DeclValue). meets ms sizes (bare_rule c.in-Some.rule.now)) matrices ∙ met_there (bare_transform t) sizes c.args.k (bare_rule c.in-Some.rule.now) there

pub returns-in-None : goal.returns-in-None
returns-in-None c =
    let t = c.args.transform.now in
    let held : c.deref.result.now ≡ t.rules = c.deref.ensures.value ∙ ap (λ (x : TransformValue). x.rules) c.transform.view_is in
    let past : slice_get (map bare_rule t.rules) c.args.k ≡ None = slice_get_past (map bare_rule t.rules) c.args.k (omega (arith, ap length held, length-map t.rules bare_rule, c.in-None.ensures.lookup.3)) in
    sym (ap (λ o. option_map_or (meets t.matrices (sizes_of c.args.s.now)) o false) past)
