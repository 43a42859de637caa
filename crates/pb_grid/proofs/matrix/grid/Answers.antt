use Rattle.std.proofs.Common.{◌∙◌}
use Rattle.pb_grid.specs.Grids.{matrix_of}
use Rattle.pb_grid.proofs.GridLemmas.{bare_refused, err_map, grid_is, ok_map}
use Rattle.pb_grid.proofs.matrix.grid.Goals as goal

pub returns-clause-found : goal.returns-clause-found
returns-clause-found c =
    let m = matrix_of c.args.ranges.now c.args.boxes.now c.args.width.now c.args.height.now in
    ok_map _ _ (λ ss h. grid_is m c.deref.result.now c.deref-2.result.now c.deref-3.result.now c.deref-4.result.now c.deref-5.result.now (c.deref.ensures.value ∙ c.in_ok-xs.ensures.found) (c.deref-2.ensures.value ∙ c.in_ok-ys.ensures.found) (c.deref-3.ensures.value ∙ c.in_ok-xs.ensures.found) (c.deref-4.ensures.value ∙ c.in_ok-ys.ensures.found) c.in_default.ensures (c.deref-5.ensures.value ∙ c.in_ok-held_areas.ensures.found) ss.items h.0 h.1) c.covered_segments.result c.covered_segments.ensures.found

pub returns-clause-refused : goal.returns-clause-refused
returns-clause-refused c =
    let m = matrix_of c.args.ranges.now c.args.boxes.now c.args.width.now c.args.height.now in
    err_map _ _ (bare_refused m c.deref.result.now c.deref-2.result.now c.deref-3.result.now c.deref-4.result.now c.deref-5.result.now (c.deref.ensures.value ∙ c.in_ok-xs.ensures.found) (c.deref-2.ensures.value ∙ c.in_ok-ys.ensures.found) (c.deref-3.ensures.value ∙ c.in_ok-xs.ensures.found) (c.deref-4.ensures.value ∙ c.in_ok-ys.ensures.found) c.in_default.ensures (c.deref-5.ensures.value ∙ c.in_ok-held_areas.ensures.found)) c.covered_segments.result c.covered_segments.ensures.refused
