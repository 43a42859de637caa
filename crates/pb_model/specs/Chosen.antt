-- The rule that a configuration chooses for a cell.
use Rattle.std.specs.Prelude.{ℕ, List, [], ◌∷◌, max}
use Rattle.pb_program.specs.Configs.{ConfigValue, chosen}
use Rattle.pb_program.specs.Trees.{ProgTransform}
use Rattle.pb_model.specs.Cells.{Cell}
use Rattle.pb_model.specs.Lawful.{lawful}

-- the size of an instance: the greatest of its sizes, or 1 where it has none
abbrev pub instance_size : List ℕ → ℕ
instance_size [] = 1
instance_size (s ∷ []) = s
instance_size (s ∷ t ∷ rest) = max s (instance_size (t ∷ rest))

-- what the configuration says for the cell's lawful rules at the size of the instance; the first of them where it says
-- nothing
unfoldable pub chosen_rule : ConfigValue → ℕ → ProgTransform → List ℕ → Cell → ℕ
chosen_rule config number t sizes c =
    chosen config (record { transform = number; matrix = c.matrix; set = lawful t sizes c }) (instance_size sizes)
