-- Cells that move along a line by as much from each place to the next.
use Rattle.std.specs.Prelude.{ℕ, ◌+◌, ◌*◌, ◌^◌, ◌%◌, List, map}
use Rattle.pb_eval.specs.declared.moving.Moving.{Moving}

-- where it is at a place, which is counted from 0
abbrev pub cell_at : ℕ → Moving → ℕ
cell_at i m = (m.from + i * m.by) % 2 ^ 64

abbrev pub cells_at : List Moving → ℕ → List ℕ
cells_at ms i = map (cell_at i) ms
