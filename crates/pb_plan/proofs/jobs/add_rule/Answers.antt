use Rattle.std.proofs.Common.{◌≡◌, ◌∙◌, ◌++◌, List, [], ap, length, map, subst, sym, arith}
use Rattle.std.specs.Prelude.{Some, slice_get}
use Rattle.std.specs.Option.{option_map_or}
use Rattle.std.proofs.lemmas.List.{length-map}
use Rattle.std.proofs.lemmas.Option.{slice_get_within}
use Rattle.pb_linear.specs.Sizes.{sizes_of}
use Rattle.pb_program.specs.Forms.{DeclValue}
use Rattle.pb_program.specs.Rules.{RuleValue}
use Rattle.pb_program.specs.Transforms.{TransformValue}
use Rattle.pb_program.specs.Trees.{ProgRule, bare_rule}
use Rattle.pb_program.specs.declared.view.Read.{Read}
use Rattle.pb_region.proofs.RuleLemmas.{held_at}
use Rattle.pb_check.proofs.FirstLemmas.{some_same}
use Rattle.pb_frame.proofs.ListLemmas.{on_ok}
use Rattle.pb_plan.specs.Boxes.{IsReadable, whole_box}
use Rattle.pb_plan.proofs.jobs.add_rule.Goals as goal

pub add_whole-requires-clause-readable : goal.add_whole-requires-clause-readable
add_whole-requires-clause-readable c =
    let t = c.args.transform.now in
    let k = c.args.k in
    let rule = c.requires.rule in
    let held : c.transform.inside.rules.items ≡ t.rules = ap (λ (x : TransformValue). x.rules) c.transform.view_is in
    let below = slice_get_within (map bare_rule t.rules) k rule.rule rule.there in
    let there : slice_get (map bare_rule t.rules) k ≡ Some (bare_rule c.index-rule.result.now) = subst (λ (rs : List RuleValue). slice_get (map bare_rule rs) k ≡ Some (bare_rule c.index-rule.result.now)) held (held_at bare_rule c.transform.inside.rules.items k c.index-rule.result.now (omega (arith, below, ap length held, length-map t.rules bare_rule)) c.index-rule.ensures) in
    let reads : rule.rule.reads ≡ c.deref-2.result.now = ap (λ (r : ProgRule). r.reads) (some_same rule.rule (bare_rule c.index-rule.result.now) (sym rule.there ∙ there)) ∙ sym (c.deref-2.ensures.value ∙ ap (λ (r : RuleValue). r.reads) c.rule.view_is) in
    let matrices : t.matrices ≡ c.deref.result.now = sym (c.deref.ensures.value ∙ ap (λ (x : TransformValue). x.matrices) c.transform.view_is) in
    subst (λ (ms : List DeclValue). IsReadable ms (sizes_of c.args.s.now) c.deref-2.result.now 0 0) matrices (subst (λ (rs : List Read). IsReadable t.matrices (sizes_of c.args.s.now) rs 0 0) reads rule.is)

pub returns : goal.returns
returns c =
    let t = c.args.transform.now in
    let k = c.args.k in
    let rule = c.requires.rule in
    let sizes = sizes_of c.args.s.now in
    let old = c.args.boxes.now.items in
    let held : c.transform.inside.rules.items ≡ t.rules = ap (λ (x : TransformValue). x.rules) c.transform.view_is in
    let below = slice_get_within (map bare_rule t.rules) k rule.rule rule.there in
    let there : slice_get (map bare_rule t.rules) k ≡ Some (bare_rule c.index-rule.result.now) = subst (λ (rs : List RuleValue). slice_get (map bare_rule rs) k ≡ Some (bare_rule c.index-rule.result.now)) held (held_at bare_rule c.transform.inside.rules.items k c.index-rule.result.now (omega (arith, below, ap length held, length-map t.rules bare_rule)) c.index-rule.ensures) in
    let reads : c.deref-2.result.now ≡ c.index-rule.result.now.reads = c.deref-2.ensures.value ∙ ap (λ (r : RuleValue). r.reads) c.rule.view_is in
    let matrices : c.deref.result.now ≡ t.matrices = c.deref.ensures.value ∙ ap (λ (x : TransformValue). x.matrices) c.transform.view_is in
    on_ok c.add_whole.result c.add_whole.ensures (λ e.
    e ∙ ap (λ (ms : List DeclValue). old ++ map (whole_box ms sizes) c.deref-2.result.now) matrices ∙ ap (λ (rs : List Read). old ++ map (whole_box t.matrices sizes) rs) reads
    ∙ sym (ap (λ o. old ++ option_map_or (λ (r : ProgRule). map (whole_box t.matrices sizes) r.reads) o []) there))
