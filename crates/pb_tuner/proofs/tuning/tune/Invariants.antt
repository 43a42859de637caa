use Rattle.std.proofs.Common.{◌+◌, ◌-◌}
use Rattle.pb_tuner.specs.Judged.{Stays}
use Rattle.pb_tuner.specs.Tuned.{After, AreTold}
use Rattle.pb_tuner.proofs.tuning.tune.Given as goal

abbrev pub invariant-loop-size : goal.invariant-loop-size
invariant-loop-size g l =
    After l.sites l.up_to l.size l.population.items l.journal.items
    × AreTold (g.J.Judge.told l.fn.judge) l.journal.items
    × Stays g.J.Judge.program g.J.Judge.told g.J.Judge.faults l.fn.judge l.judge

abbrev pub decreases-loop-size : goal.decreases-loop-size
decreases-loop-size g l = l.up_to + 1 - l.size
