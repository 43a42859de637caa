-- Two tasks that a hand runs.
use Rattle.std.specs.Prelude.{◌≡◌, [], ◌∷◌, length}
use Rattle.pb_taskgraph.specs.Graphs.{GraphValue, after_of}

-- there are two tasks, and only the first releases one, the second
pub record AreTwo (g : GraphValue) : Type 0 where
  pub tasks : length g.tasks ≡ 2
  pub first : after_of g 0 ≡ 1 ∷ []
  pub second : after_of g 1 ≡ []
