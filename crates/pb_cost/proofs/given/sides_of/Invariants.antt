use Rattle.std.proofs.Common.{◌≡◌, map, take}
use Rattle.pb_linear.specs.Sizes.{sizes_of}
use Rattle.pb_recursion.specs.Shapes.{sides_of_decl}
use Rattle.pb_cost.proofs.given.sides_of.Given as goal

abbrev pub invariant-loop-decl : goal.invariant-loop-decl
invariant-loop-decl l = l.sides.items ≡ map (sides_of_decl (sizes_of l.s)) (take l.decl-index l.decls)
