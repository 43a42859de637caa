use Rattle.std.proofs.Common.{◌≡◌, ◌+◌, drop}
use Rattle.std.specs.List.{position_or_len}
use Rattle.pb_matrix.specs.Cuts.{cuts}
use Rattle.pb_matrix.proofs.words.split_first.Given as goal

abbrev pub invariant-loop-i : goal.invariant-loop-i
invariant-loop-i l = position_or_len (cuts l.cut) l.text ≡ l.i + position_or_len (cuts l.cut) (drop l.i l.text)
