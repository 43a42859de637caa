use Rattle.std.proofs.Common.{◌≡◌, ◌+◌, ◌^◌, ◌<◌, drop}
use Rattle.std.specs.List.{position_or_len, before_first}
use Rattle.pb_matrix.specs.Words.{is_gap}
use Rattle.pb_matrix.specs.Digits.{magnitude_after}
use Rattle.pb_matrix.proofs.quick.quick_digits.Given as goal

-- the digits of the rest, put after those that were read, spell what all spell
abbrev pub invariant-loop-i : goal.invariant-loop-i
invariant-loop-i l =
    (position_or_len is_gap l.text ≡ l.i + position_or_len is_gap (drop l.i l.text))
    × (magnitude_after l.value (before_first is_gap (drop l.i l.text)) ≡ magnitude_after 0 (before_first is_gap l.text))
    × (l.value < 2 ^ 63)
