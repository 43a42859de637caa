-- A depth-first walk, of which only its nodes matter.
use Rattle.std.specs.Prelude.{◌≡◌, ℕ, ◌<◌, Bool, List, length}
use Rattle.std.specs.List.{All}
use Rattle.pb_layers.specs.declared.walk.Stop.{Stop}

-- its nodes are among so many
pub record IsWalk (nodes : ℕ) (met : List Bool) (way : List Stop) (finished : List ℕ) : Type 0 where
  pub room : length met ≡ nodes
  pub on_way : All (λ (s : Stop). s.node < nodes) way
  pub done : All (λ v. v < nodes) finished
