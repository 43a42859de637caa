use Rattle.pb_program.specs.Trees.{bare_prog}
use Rattle.pb_check.proofs.OrderLemmas.{IsFoundTo}
use Rattle.pb_check.proofs.orders.order_all.Given as goal

abbrev pub invariant-loop-cut : goal.invariant-loop-cut
invariant-loop-cut l = IsFoundTo (bare_prog l.p) l.found.items l.cut-iterator.rest.items
