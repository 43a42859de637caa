-- A table of outcomes that is read.
use Rattle.std.specs.Prelude.{pos, List, [], Some, slice_get}
use Rattle.std.specs.Option.{option_map_or}
use Rattle.pb_values.specs.Cells.{Turn}
use Rattle.pb_values.specs.declared.outcome.Outcome.{Outcome}
use Rattle.pb_values.specs.declared.outcome.Outcome.TheVariants.{Value}

-- the outcome of each cell, past the table 0
abbrev pub told_by : List Outcome → Turn
told_by outcomes = record { task = 0; outcomes = λ cell. Some (option_map_or (λ o. o) (slice_get outcomes cell) (Value (pos 0))); left = [] }
