-- The outcomes that views show, from a place on.
use Rattle.std.specs.Prelude.{ℕ, ◌-◌, List, map}
use Rattle.std.specs.List.{flat_map, range_with_len}
use Rattle.pb_values.specs.Cells.{Turn}
use Rattle.pb_values.specs.Views.{cell_of}
use Rattle.pb_values.specs.declared.outcome.Outcome.{Outcome}
use Rattle.pb_values.specs.declared.view.View.{View}
use Rattle.pb_statements.specs.Shown.{outcome_of}

-- of a row
unfoldable pub outcomes_from : Turn → View → ℕ → ℕ → List Outcome
outcomes_from turn v y x = map (λ i. outcome_of turn (cell_of v i y)) (range_with_len x (v.shape.w - x))

-- of rows
unfoldable pub rows_seen : Turn → View → ℕ → List Outcome
rows_seen turn v y = flat_map (λ j. outcomes_from turn v j 0) (range_with_len y (v.shape.h - y))

-- of views
unfoldable pub views_seen : Turn → List View → List Outcome
views_seen turn views = flat_map (λ v. rows_seen turn v 0) views
