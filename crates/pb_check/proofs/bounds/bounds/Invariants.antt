use Rattle.std.proofs.Common.{take}
use Rattle.std.specs.List.{All}
use Rattle.pb_program.specs.Trees.{bare_prog}
use Rattle.pb_check.specs.Phases.{IsBounded}
use Rattle.pb_check.proofs.bounds.bounds.Given as goal

abbrev pub invariant-loop-t : goal.invariant-loop-t
invariant-loop-t l = All IsBounded (take l.t (bare_prog l.p))
