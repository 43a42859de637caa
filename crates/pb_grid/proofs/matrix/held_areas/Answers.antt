use Rattle.std.proofs.Common.{◌≡◌, ◌∙◌, ap, subst, sym, length, map}
use Rattle.std.specs.List.{All, flat_map}
use Rattle.pb_linear.specs.Sizes.{leasts_of}
use Rattle.pb_grid.specs.declared.axis.Axis.TheVariants as axis
use Rattle.pb_grid.specs.Cuts.{le}
use Rattle.pb_grid.specs.Gaps.{GapValue, gap_of, held_by}
use Rattle.pb_grid.specs.Lists.{in_order, neighbours}
use Rattle.pb_grid.proofs.GapLemmas.{all_areas, all_long}
use Rattle.pb_grid.proofs.GridLemmas.{ok_map}
use Rattle.pb_grid.proofs.matrix.held_areas.Goals as goal

pub segments_held-requires-clause-xs : goal.segments_held-requires-clause-xs
segments_held-requires-clause-xs c =
    subst (All (λ (g : GapValue). length g.held ≡ length c.args.boxes.now)) (sym (c.deref.ensures.value ∙ c.in_ok-xs.ensures.found)) (all_long (leasts_of c.args.ranges.now) c.args.boxes.now axis.X _)

pub segments_held-requires-clause-ys : goal.segments_held-requires-clause-ys
segments_held-requires-clause-ys c =
    subst (All (λ (g : GapValue). length g.held ≡ length c.args.boxes.now)) (sym (c.deref-2.ensures.value ∙ c.in_ok-ys.ensures.found)) (all_long (leasts_of c.args.ranges.now) c.args.boxes.now axis.Y _)

pub returns-clause-found : goal.returns-clause-found
returns-clause-found c =
    let leasts = leasts_of c.args.ranges.now in
    let boxes = c.args.boxes.now in
    let ex = c.deref.ensures.value ∙ c.in_ok-xs.ensures.found in
    let ey = c.deref-2.ensures.value ∙ c.in_ok-ys.ensures.found in
    ok_map _ _ (λ hs found. found ∙ ap (λ xs. flat_map (λ y. map (λ x. held_by boxes x y) xs) c.deref-2.result.now) ex ∙ ap (flat_map (λ y. map (λ x. held_by boxes x y) (map (gap_of leasts axis.X boxes) (neighbours (in_order (le leasts) c.args.xs.now))))) ey ∙ all_areas leasts boxes (neighbours (in_order (le leasts) c.args.xs.now)) (neighbours (in_order (le leasts) c.args.ys.now))) c.segments_held.result c.segments_held.ensures.found
