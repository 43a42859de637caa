use Rattle.std.proofs.Common.{take}
use Rattle.pb_program.specs.Trees.{bare_prog}
use Rattle.pb_check.specs.Cuts.{AreCutInto}
use Rattle.pb_check.proofs.cuts.cut_all.Given as goal

abbrev pub invariant-loop-t : goal.invariant-loop-t
invariant-loop-t l = AreCutInto (take l.t (bare_prog l.p)) l.cuts.items
