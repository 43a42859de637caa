use Rattle.std.proofs.Common.{take}
use Rattle.pb_steps.specs.Stands.{AreViewsOf}
use Rattle.pb_steps.proofs.seats.views_of.Given as goal

abbrev pub invariant-loop-k : goal.invariant-loop-k
invariant-loop-k l = AreViewsOf l.decls (take l.k l.seats) l.views.items
