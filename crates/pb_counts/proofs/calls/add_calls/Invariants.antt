use Rattle.std.proofs.Common.{map, take}
use Rattle.std.specs.List.{All}
use Rattle.pb_linear.specs.Sizes.{sizes_of}
use Rattle.pb_program.specs.Trees.{bare_prog, bare_rule, bare_transform}
use Rattle.pb_recursion.specs.Counts.{all_of, call_count}
use Rattle.pb_counts.specs.Gathered.{CanCome, IsMore}
use Rattle.pb_counts.proofs.calls.add_calls.Given as goal

abbrev pub invariant-loop-call : goal.invariant-loop-call
invariant-loop-call l =
    IsMore (bare_prog l.prog) l.deep l.initial.g l.g (λ deeper. all_of (map (call_count (bare_prog l.prog) (bare_transform l.t) (sizes_of l.s) deeper (bare_rule l.rule)) (take l.call-index l.calls)))
    × (All (CanCome (bare_prog l.prog)) l.initial.g.next → All (CanCome (bare_prog l.prog)) l.g.next)
