use Rattle.std.proofs.Common.{◌≡◌, ◌++◌, map, take}
use Rattle.std.specs.List.{All, enumerate_from, flat_map}
use Rattle.pb_linear.specs.Sizes.{sizes_of}
use Rattle.pb_program.specs.Trees.{bare_prog, bare_rule, bare_transform}
use Rattle.pb_cost.specs.Planned.{CanBeEntered, rule_calls}
use Rattle.pb_cost.proofs.calls.calls_of.Given as goal

abbrev pub invariant-loop-k : goal.invariant-loop-k
invariant-loop-k l =
    (l.all.items ≡ l.initial.all.items ++ flat_map (rule_calls (bare_prog l.prog) (bare_transform l.t) (sizes_of l.s) l.parts) (take l.k (enumerate_from 0 (map bare_rule l.t.rules))))
    × All (CanBeEntered (bare_prog l.prog)) l.all.items
