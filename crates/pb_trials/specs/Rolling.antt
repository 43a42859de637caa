-- What a run of the rolling sum costs at some sizes.
use Rattle.std.specs.Prelude.{ℕ, ◌==◌, if◌then◌else◌, [], ◌∷◌, Option, Some, None}
use Rattle.std.specs.Option.{option_map}
use Rattle.pb_program.specs.Configs.{ConfigValue, SiteValue, chosen}

-- where each cell is a sum, and where each is made from the one before it
abbrev pub costs_at : ℕ → Option (ℕ × ℕ)
costs_at size =
    if size == 1 then Some (2, 2)
    else if size == 2 then Some (5, 5)
    else if size == 4 then Some (14, 11)
    else if size == 8 then Some (44, 23)
    else None

abbrev pub cells : SiteValue
cells = record { transform = 0; matrix = 1; set = 0 ∷ 1 ∷ [] }

-- by the rule that is chosen at this size
abbrev pub rolling_costs : ConfigValue → ℕ → Option ℕ
rolling_costs c size = option_map (λ costs. if chosen c cells size == 0 then costs.0 else costs.1) (costs_at size)
