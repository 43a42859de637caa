-- The matrices of a transform that is run: there is a view of each, those that are given first.
use Rattle.std.proofs.Common.{◌≡◌, ap, ℕ, suc, ◌+◌, ◌≤◌, List, [], ◌∷◌, length, slice_get, Some, arith}
use Rattle.pb_values.specs.declared.view.View.{View}
use Rattle.pb_program.specs.Forms.{DeclValue}
use Rattle.pb_program.specs.Trees.{ProgTransform, bare_transform}
use Rattle.pb_program.specs.WellFormed.{IsTransform}
use Rattle.pb_region.proofs.SmallLemmas.{at_place}
use Rattle.pb_recursion.proofs.ShapeLemmas.{map_get}
use Rattle.pb_views.specs.Layouts.{AreInARow, area_at}
use Rattle.pb_run_work.specs.Running.{IsRunning, RunValue, of_sizes, of_transform, prog_of}

row_length : (sizes : List ℕ) (first : ℕ) (ds : List DeclValue) (vs : List View) → AreInARow first sizes ds vs → length vs ≡ length ds
row_length sizes first [] vs row = ap length row
row_length sizes first (d ∷ ds) [] row = absurd row
row_length sizes first (d ∷ ds) (v ∷ vs) row = ap suc (row_length sizes (first + area_at sizes d) ds vs row.1)

module _ (r : RunValue) (is : IsRunning r) where
  abbrev t : ProgTransform
  t = of_transform r

  there : slice_get (prog_of r) r.number ≡ Some t
  there = map_get bare_transform r.accepted.program.transforms r.number r.transform is.there

  form : IsTransform (length (prog_of r)) t
  form = at_place (IsTransform (length (prog_of r))) (prog_of r) r.number t is.begun.entered.well.transforms there

  -- those after `to` are among them
  pub results_there : r.transform.inputs + r.transform.middles ≤ length r.views
  results_there = omega (arith, form.parts, row_length (of_sizes r) 0 t.matrices r.views is.row)

  pub inputs_there : r.transform.inputs ≤ length r.views
  inputs_there = omega (arith, results_there)
