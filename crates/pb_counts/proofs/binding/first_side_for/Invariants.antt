use Rattle.std.proofs.Common.{◌≡◌, drop}
use Rattle.std.specs.List.{zip}
use Rattle.pb_recursion.specs.Shapes.{first_side_for}
use Rattle.pb_counts.proofs.binding.first_side_for.Given as goal

abbrev pub invariant-loop-number : goal.invariant-loop-number
invariant-loop-number l = first_side_for l.k (zip l.decls l.given) ≡ first_side_for l.k (drop l.number (zip l.decls l.given))
