use Rattle.std.proofs.Common.{◌≡◌, ◌+◌, ◌-◌, ◌*◌, ◌≤◌, drop, flat_map, length}
use Rattle.pb_matrix.proofs.TextLemmas.{AllFit, after_blank}
use Rattle.pb_matrix.proofs.buffered.put_numbers.Given as goal

-- the numbers that are left take 21 bytes each at most; those that were put stand at the end
abbrev pub invariant-loop-k : goal.invariant-loop-k
invariant-loop-k l = record {
  within : l.at ≤ 1008;
  room : 1008 ≤ l.at + 21 * l.k;
  written : drop l.at l.buffer ≡ flat_map after_blank (drop (length l.numbers - l.k) l.numbers);
  fits : AllFit (drop (length l.numbers - l.k) l.numbers);
}
