use Rattle.std.proofs.Common.{◌≡◌, ◌<◌, ℕ, pos, length, get_or}
use Rattle.pb_statements.proofs.laying.zero.Given as goal

abbrev pub invariant-loop-k : goal.invariant-loop-k
invariant-loop-k l = record {
  size : length l.numbers.items ≡ length l.initial.numbers.items;
  zeros : (i : ℕ) → i < l.k → get_or l.numbers.items i (pos 0) ≡ pos 0;
}
