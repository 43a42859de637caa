use Rattle.std.proofs.Common.{◌≡◌, drop, map}
use Rattle.pb_linear.specs.Sizes.{sizes_of}
use Rattle.pb_recursion.specs.Shapes.{all_same_sides, sides_of_decl}
use Rattle.pb_counts.proofs.fitting.have_sides.Given as goal

abbrev pub invariant-loop-number : goal.invariant-loop-number
invariant-loop-number l = all_same_sides (map (sides_of_decl (sizes_of l.s)) l.decls) l.given ≡ all_same_sides (drop l.number (map (sides_of_decl (sizes_of l.s)) l.decls)) (drop l.number l.given)
