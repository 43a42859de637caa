use Rattle.std.proofs.Common.{◌≡◌, ◌+◌, ◌*◌, Some}
use Rattle.pb_program.specs.Trees.{bare_prog}
use Rattle.pb_cost.specs.Calls.{call_cost, deeper_at}
use Rattle.pb_cost.specs.Known.{AreKnown}
use Rattle.pb_cost.proofs.SumLemmas.{so_far}
use Rattle.pb_cost.proofs.recursion.+costs.Given as goal

abbrev pub decreases-call_cost : goal.decreases-call_cost
decreases-call_cost l = 2 * l.depth + 1

abbrev pub decreases-with_calls : goal.decreases-with_calls
decreases-with_calls l = 2 * l.depth

abbrev pub invariant-with_calls-loop-call : goal.invariant-with_calls-loop-call
invariant-with_calls-loop-call l =
    (Some l.cost ≡ so_far l.fn.own (call_cost (deeper_at (bare_prog l.a.program) l.c l.depth)) l.calls l.call-index)
    × AreKnown (bare_prog l.a.program) l.c l.known
