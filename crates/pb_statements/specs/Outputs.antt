-- The sides of outputs, and where they stand in a list of numbers.
use Rattle.std.specs.Prelude.{ℕ, ◌+◌, ◌*◌, ◌-ℤ◌, ◌==◌, if◌then◌else◌, List, [], ◌∷◌, slice_get}
use Rattle.std.specs.Option.{option_map_or}
use Rattle.pb_linear.specs.Numbers.{exact_value}
use Rattle.pb_program.specs.declared.view.Read.{Read}
use Rattle.pb_program.specs.declared.view.ReadView.{ReadView}
use Rattle.pb_program.specs.declared.view.ReadView.TheVariants as view
use Rattle.pb_program.specs.Forms.{CoordinateValue, DeclValue}
use Rattle.pb_model.specs.Cells.{natural}
use Rattle.pb_statements.specs.declared.scratch.Scratch.{Scratch}
use Rattle.pb_statements.specs.declared.spot.Spot.{Spot}

-- from one coordinate to before another, where they have no rule variables
abbrev pub gap_of : List ℕ → CoordinateValue → CoordinateValue → ℕ
gap_of sizes low high = natural (exact_value high.rest sizes -ℤ exact_value low.rest sizes)

-- the width and the height of a view whose coordinates have no rule variables, or which is a cell
abbrev pub free_by : ReadView → List ℕ → Read → DeclValue → ℕ × ℕ
free_by view.Cell sizes r d = (1, 1)
free_by view.Row sizes r d = (natural (exact_value d.w sizes), 1)
free_by view.Column sizes r d = (natural (exact_value d.h sizes), 1)
free_by view.Region sizes r d = (gap_of sizes r.x0 r.x1, if r.dims == 1 then 1 else gap_of sizes r.y0 r.y1)
free_by view.Whole sizes r d = (natural (exact_value d.w sizes), natural (exact_value d.h sizes))

unfoldable pub free_sides : List DeclValue → List ℕ → Read → ℕ × ℕ
free_sides matrices sizes r = option_map_or (free_by r.view sizes r) (slice_get matrices r.matrix) (0, 0)

-- the lowest corner of a view whose coordinates have no rule variables
abbrev pub low_by : ReadView → List ℕ → Read → ℕ × ℕ
low_by view.Row sizes r = (0, natural (exact_value r.y0.rest sizes))
low_by view.Column sizes r = (natural (exact_value r.x0.rest sizes), 0)
low_by view.Whole sizes r = (0, 0)
low_by _ sizes r = (natural (exact_value r.x0.rest sizes), if r.dims == 1 then 0 else natural (exact_value r.y0.rest sizes))

-- how many numbers outputs with these sides have
abbrev pub numbers_in : List (ℕ × ℕ) → ℕ
numbers_in [] = 0
numbers_in (sides ∷ rest) = sides.1 * sides.0 + numbers_in rest

-- where the numbers end that begin at a place
abbrev pub end_of : ℕ → List Spot → ℕ
end_of from [] = from
end_of from (s ∷ rest) = end_of (from + s.height * s.width) rest

-- where those of the outputs of a scratch end
abbrev pub end_in : Scratch → ℕ
end_in s = end_of 0 s.spots.items
