use Rattle.std.proofs.Common.{◌≡◌, drop}
use Rattle.std.specs.List.{flat_map}
use Rattle.pb_types.specs.Least.{least, least_of}
use Rattle.pb_types.specs.Loops.{names}
use Rattle.pb_types.specs.Working.{stmt_in}
use Rattle.pb_types.proofs.views.Bound.+statement.Given as goal

abbrev pub invariant-statements-loop-next : goal.invariant-statements-loop-next
invariant-statements-loop-next l =
    least l.found (least_of (flat_map (stmt_in l.self (names l.loops)) (drop l.next-index l.ss))) ≡ least_of (flat_map (stmt_in l.self (names l.loops)) l.ss)
