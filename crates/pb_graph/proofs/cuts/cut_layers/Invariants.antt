use Rattle.std.proofs.Common.{◌≡◌, ℕ, map, take}
use Rattle.std.specs.List.{enumerate_from}
use Rattle.pb_layers.specs.declared.layers.Layer.{Layer}
use Rattle.pb_graph.specs.Cuts.{allowed_at, layer_by}
use Rattle.pb_graph.proofs.cuts.cut_layers.Given as goal

abbrev pub invariant-loop-place : goal.invariant-loop-place
invariant-loop-place l = l.cut.items ≡ map (λ (m : ℕ × Layer). layer_by (allowed_at l.layer m.0 l.edges) m.1) (take l.place (enumerate_from 0 l.layers))
