-- What it means that steps are right: each makes its cells as its rules say, from cells that are known before.
use Rattle.std.specs.Prelude.{◌≡◌, ℕ, ◌-◌, List, map}
use Rattle.std.specs.List.{Contains}
use Rattle.pb_program.specs.Configs.{ConfigValue}
use Rattle.pb_model.specs.Calls.{Outcomes, Plans, cell_equation, cell_reads, no_outcome}
use Rattle.pb_model.specs.Cells.{Cell}
use Rattle.pb_walk.specs.declared.stop.Stop.{Stop}
use Rattle.pb_solution.specs.Solutions.{stop_cell, stops_of}
use Rattle.pb_views.specs.Seats.{cell_at}
use Rattle.pb_runs.specs.Steps.{Copied, Instance, Step, by_copy, by_job, by_trap, cells_of, copied_stops, number_at, stop_number}
use Rattle.pb_runs.specs.Placed.{outcome_of}

-- no plan plays a part
abbrev pub no_plans : Plans
no_plans rule r c seen = no_outcome

-- the place in the source of a copy
abbrev pub source_number : Copied → Stop → ℕ
source_number c s = cell_at c.source (s.x - c.corner.0) (s.y - c.corner.1)

module _ (config : ConfigValue) (ms : List Outcomes) where
  -- a cell of a job is what its rule makes of the outcomes of what it reads
  abbrev pub IsMadeByRule : Instance → Stop → Type 0
  IsMadeByRule i s =
      outcome_of ms (stop_number i s) ≡ cell_equation config no_plans i.number i.transform i.sizes (stop_cell s) (map (λ d. outcome_of ms (number_at i d)) (cell_reads config no_plans i.number i.transform i.sizes (stop_cell s)))

  -- a copied cell has the outcome of its source, and a cell of a call that can't be made the trap
  abbrev pub IsRight : Step → Type 0
  IsRight (by_job i job) = (s : Stop) → Contains (stops_of i.found.nodes i.found.order.layers job) s → IsMadeByRule i s
  IsRight (by_copy i c) = (s : Stop) → Contains (copied_stops i c) s → outcome_of ms (stop_number i s) ≡ outcome_of ms (source_number c s)
  IsRight (by_trap f) = (k : ℕ) → Contains (cells_of (by_trap f)) k → outcome_of ms k ≡ f.outcome

-- the cell with this number is read: by a job, for a cell that it makes, as its chosen rule says; by a copy, for a cell that it copies
abbrev pub ReadsNumber : ConfigValue → Step → ℕ → Type 0
ReadsNumber config (by_job i job) n = (s : Stop) × Contains (stops_of i.found.nodes i.found.order.layers job) s × (d : Cell) × Contains (cell_reads config no_plans i.number i.transform i.sizes (stop_cell s)) d × (number_at i d ≡ n)
ReadsNumber config (by_copy i c) n = (s : Stop) × Contains (copied_stops i c) s × (source_number c s ≡ n)
ReadsNumber config (by_trap f) n = ⊥
