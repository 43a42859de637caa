use Rattle.std.proofs.Common.{◌≡◌, ◌++◌, flat_map, length}
use Rattle.pb_matrix.proofs.TextLemmas.{AllFit, after_blank}
use Rattle.pb_matrix.proofs.buffered.write_numbers.Given as goal

-- the numbers that are left complete the text, and those that were written fit
abbrev pub invariant-loop-rest : goal.invariant-loop-rest
invariant-loop-rest l = record {
  text : l.text.items ++ flat_map after_blank l.rest ≡ l.fn.text.items ++ flat_map after_blank l.numbers;
  fits : AllFit l.rest → AllFit l.numbers;
}

abbrev pub decreases-loop-rest : goal.decreases-loop-rest
decreases-loop-rest l = length l.rest
