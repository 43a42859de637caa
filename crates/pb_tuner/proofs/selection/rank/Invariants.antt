use Rattle.std.proofs.Common.{◌≡◌, drop, ℕ}
use Rattle.std.specs.BTreeMap.{IsOrdered}
use Rattle.std.specs.Ordering.{nat_cmp}
use Rattle.pb_tuner.specs.Tuned.{fits}
use Rattle.pb_tuner.proofs.SelectionLemmas.{at_cost, before_or_among}
use Rattle.pb_tuner.proofs.selection.rank.Given as goal

abbrev pub invariant-loop-answer : goal.invariant-loop-answer
invariant-loop-answer l =
    IsOrdered nat_cmp l.ranking × ((cost : ℕ) → before_or_among cost l.ranking.entries (fits (drop l.answer-index l.asked)) ≡ at_cost cost (fits l.asked))
