-- At which sizes a call in a plan enters the transform that it calls.
use Rattle.std.specs.Prelude.{ℕ, if◌then◌else◌, List, Option, None, slice_get}
use Rattle.std.specs.Option.{option_map}
use Rattle.pb_program.specs.Forms.{DeclValue}
use Rattle.pb_program.specs.Plans.{PlanCallValue}
use Rattle.pb_program.specs.Trees.{ProgRule, ProgTransform}
use Rattle.pb_recursion.specs.Plans.{argument_sides, fits_call}
use Rattle.pb_recursion.specs.Shapes.{sizes_from}

-- those that its arguments bind, where it fits
abbrev pub sizes_of_call : List DeclValue → List ℕ → List ProgTransform → ProgRule → PlanCallValue → Option (List ℕ)
sizes_of_call matrices sizes p r c = if fits_call matrices sizes p r c then option_map (λ t. sizes_from t (argument_sides matrices sizes r c)) (slice_get p c.transform) else None
