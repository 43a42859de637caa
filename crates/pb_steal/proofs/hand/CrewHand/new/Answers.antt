use Rattle.std.proofs.Common.{ap}
use Rattle.pb_steal.specs.Hands.{RunnerValue}
use Rattle.pb_steal.proofs.DealLemmas.{new-is}
use Rattle.pb_steal.proofs.hand.CrewHand.new.Goals as goal

pub invariant_of-result : goal.invariant_of-result
invariant_of-result g c = (
  ap (λ (r : RunnerValue). r.row) c.in_ok-new.ensures,
  new-is g.N.NamesWork.plan g.B.NamesTable.table c.args.own c.args.others.items c.requires.own c.requires.others c.in_ok-new.field-0 c.in_ok-new.ensures,
)
