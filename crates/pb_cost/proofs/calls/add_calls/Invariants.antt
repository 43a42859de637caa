use Rattle.std.proofs.Common.{◌≡◌, ◌++◌, map, take}
use Rattle.std.specs.List.{All}
use Rattle.pb_linear.specs.Sizes.{sizes_of}
use Rattle.pb_program.specs.Trees.{bare_prog, bare_rule, bare_transform}
use Rattle.pb_cost.specs.Calls.{entered_by}
use Rattle.pb_cost.specs.Planned.{CanBeEntered}
use Rattle.pb_cost.proofs.calls.add_calls.Given as goal

abbrev pub invariant-loop-call : goal.invariant-loop-call
invariant-loop-call l =
    (l.all.items ≡ l.initial.all.items ++ map (entered_by (bare_prog l.prog) (bare_transform l.t) (sizes_of l.s) (bare_rule l.rule)) (take l.call-index l.calls))
    × (All (CanBeEntered (bare_prog l.prog)) l.initial.all.items → All (CanBeEntered (bare_prog l.prog)) l.all.items)
