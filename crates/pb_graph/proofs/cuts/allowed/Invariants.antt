use Rattle.std.proofs.Common.{◌≡◌, ◌<◌, ℕ, length, take, get_or}
use Rattle.pb_graph.specs.Cuts.{all_sides, allowed_at}
use Rattle.pb_graph.proofs.cuts.allowed.Given as goal

abbrev pub invariant-loop-edge : goal.invariant-loop-edge
invariant-loop-edge l = record {
  room : length l.allowed.items ≡ l.count;
  found : (place : ℕ) → place < l.count → get_or l.allowed.items place all_sides ≡ allowed_at l.layer place (take l.edge-index l.edges);
}
