use Rattle.std.proofs.Common.{◌≡◌, ◌+◌, ◌-◌, ◌*◌, ◌≤◌, take}
use Rattle.pb_program.specs.Trees.{bare_prog}
use Rattle.pb_recursion.specs.Counts.{both}
use Rattle.pb_counts.specs.Tallies.{capped, counted}
use Rattle.pb_counts.specs.declared.count.TheConstants.{MOST_CALLS}
use Rattle.pb_counts.specs.Gathered.{all_next}
use Rattle.pb_counts.specs.Memos.{AreKnown}
use Rattle.pb_counts.specs.Sized.{sized_count}
use Rattle.pb_counts.proofs.count.+counts.Given as goal

abbrev pub decreases-count : goal.decreases-count
decreases-count l = 2 * l.depth + 1

abbrev pub decreases-rest : goal.decreases-rest
decreases-rest l = 2 * l.depth

abbrev pub invariant-rest-loop-entered : goal.invariant-rest-loop-entered
invariant-rest-loop-entered l =
    (capped (counted l.tally) ≡ capped (both (counted l.fn.own) (all_next (sized_count (bare_prog l.a.program) l.c (l.depth - 1)) (take l.entered-index l.next))))
    × (l.before + l.tally.calls ≤ MOST_CALLS)
    × AreKnown (bare_prog l.a.program) l.c l.known
