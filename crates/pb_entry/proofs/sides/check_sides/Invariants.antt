use Rattle.std.proofs.Common.{take}
use Rattle.std.specs.List.{All, zip}
use Rattle.pb_linear.specs.Sizes.{sizes_of}
use Rattle.pb_entry.specs.Fitting.{HasSides}
use Rattle.pb_entry.proofs.sides.check_sides.Given as goal

abbrev pub invariant-loop-number : goal.invariant-loop-number
invariant-loop-number l = All (HasSides (sizes_of l.sizes)) (take l.number (zip l.matrices l.inputs))
