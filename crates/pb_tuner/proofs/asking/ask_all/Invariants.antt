use Rattle.std.proofs.Common.{◌≡◌, ◌++◌, map}
use Rattle.std.specs.List.{AllByRecursion}
use Rattle.std.specs.Vec.Iter.{into_iter_items}
use Rattle.pb_tuner.specs.Judged.{Stays}
use Rattle.pb_tuner.specs.Tuned.{AreTold, IsAnswer}
use Rattle.pb_tuner.proofs.asking.ask_all.Given as goal

abbrev pub invariant-loop-config : goal.invariant-loop-config
invariant-loop-config g l =
    (goal.iterator-loop-config g).can_next l.config-iterator
    × (goal.iterator-loop-config g).is_finite l.config-iterator
    × (map (λ a. a.config) l.all.items ++ into_iter_items l.config-iterator ≡ l.fn.configs.items)
    × AllByRecursion (IsAnswer l.size) l.all.items
    × AreTold (g.J.Judge.told l.initial.judge) l.all.items
    × Stays g.J.Judge.program g.J.Judge.told g.J.Judge.faults l.initial.judge l.judge
