use Rattle.pb_locked.specs.Places.{HasPlaces}
use Rattle.pb_locked.proofs.places.Places.new.Given as goal

abbrev pub invariant-loop-task : goal.invariant-loop-task
invariant-loop-task g l = HasPlaces g.N.NamesWork.plan.graph l.task (record { places = l.places.items; counts = l.counts.items })
