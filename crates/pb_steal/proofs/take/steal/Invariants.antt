use Rattle.std.proofs.Common.{◌≡◌, ℕ, ◌<◌, ◌≤◌, get_or, length}
use Rattle.std.specs.List.{sum_by}
use Rattle.pb_steal.specs.Deques.{FindsNone, SourceValue}
use Rattle.pb_steal.specs.Turns.{AreSame}
use Rattle.pb_steal.proofs.take.steal.Given as goal

-- the first ones were tried and found none, and the others are as they were
abbrev pub invariant-loop-place : goal.invariant-loop-place
invariant-loop-place g l = record {
  size : length l.others.items ≡ length l.fn.others.items;
  tried : (i : ℕ) (d : SourceValue) → i < l.place → FindsNone (get_or l.fn.others.items i d) (get_or l.others.items i d);
  rest : (i : ℕ) (d : SourceValue) → l.place ≤ i → get_or l.others.items i d ≡ get_or l.fn.others.items i d;
  same : AreSame l.fn.others.items l.others.items;
  took : sum_by (λ s. s.took) l.others.items ≡ sum_by (λ s. s.took) l.fn.others.items;
}
