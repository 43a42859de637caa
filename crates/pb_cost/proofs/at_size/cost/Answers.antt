use Rattle.std.proofs.Common.{◌≡◌, ◌∙◌, sym, ap, subst, false, true}
use Rattle.pb_linear.specs.Sizes.{InRange, leasts_of, sizes_of}
use Rattle.pb_linear.specs.declared.sizes.Ranges.{Ranges}
use Rattle.pb_program.specs.Transforms.{ProgValue, TransformValue}
use Rattle.pb_program.specs.Trees.{bare_prog, bare_transform}
use Rattle.pb_recursion.proofs.ShapeLemmas.{map_get}
use Rattle.pb_cost.proofs.LimitLemmas.{callable_at, if_ok, in_range_cost, out_of_range_cost, transform_at}
use Rattle.pb_cost.proofs.at_size.cost.Goals as goal

pub equal_sizes-s-requires : goal.equal_sizes-s-requires
equal_sizes-s-requires c =
    let v = c.args.a.now in
    callable_at v c.prog.ensures.accepted c.args.t c.index-transform.result.now (transform_at v c.args.t c.requires.there c.behind-a.inside.transforms.items (ap (λ (p : ProgValue). p.transforms) (c.behind-a.view_is ∙ c.prog.ensures.program)) c.index-transform.result.now c.index-transform.ensures)

pub cost_at-requires-clause-there : goal.cost_at-requires-clause-there
cost_at-requires-clause-there c =
    transform_at c.args.a.now c.args.t c.requires.there c.behind-a.inside.transforms.items (ap (λ (p : ProgValue). p.transforms) (c.behind-a.view_is ∙ c.prog.ensures.program)) c.index-transform.result.now c.index-transform.ensures

pub returns-then-not-hold : goal.returns-then-not-hold
returns-then-not-hold c =
    let v = c.args.a.now in
    let x = c.index-transform.result.now in
    let at = transform_at v c.args.t c.requires.there c.behind-a.inside.transforms.items (ap (λ (p : ProgValue). p.transforms) (c.behind-a.view_is ∙ c.prog.ensures.program)) x c.index-transform.ensures in
    let ranges = ap (λ (r : TransformValue). r.ranges) c.transform.view_is in
    let s = c.equal_sizes-s.result in
    out_of_range_cost (bare_prog v.program) v.found c.args.c.now c.args.t c.args.size (bare_transform x) (map_get bare_transform v.program.transforms c.args.t x at) (λ range.
    let counts = ap (λ (r : Ranges). r.count) ranges ∙ (callable_at v c.prog.ensures.accepted c.args.t x at).ranges ∙ sym c.equal_sizes-s.ensures.count in
    let in_range = subst (λ (r : Ranges). InRange (leasts_of r) (sizes_of s)) (sym ranges) (subst (InRange (leasts_of x.ranges)) (sym c.equal_sizes-s.ensures.sizes) range) in
    let wrong : false ≡ true = sym c.if-not-hold.true ∙ c.hold.ensures.1 (counts, in_range) in cc)

pub returns : goal.returns
returns c =
    let v = c.args.a.now in
    let x = c.index-transform.result.now in
    let at = transform_at v c.args.t c.requires.there c.behind-a.inside.transforms.items (ap (λ (p : ProgValue). p.transforms) (c.behind-a.view_is ∙ c.prog.ensures.program)) x c.index-transform.ensures in
    let ranges = ap (λ (r : TransformValue). r.ranges) c.transform.view_is in
    let s = c.equal_sizes-s.result in
    let range = subst (λ (r : Ranges). InRange (leasts_of r) (sizes_of s)) ranges (c.hold.ensures.0 c.if-not-hold.false).1 in
    if_ok c.cost_at.result c.cost_at.ensures (λ o is. is ∙ in_range_cost (bare_prog v.program) v.found c.args.c.now c.args.t c.args.size (bare_transform x) (map_get bare_transform v.program.transforms c.args.t x at) (sizes_of s) c.equal_sizes-s.ensures.sizes range)
