use Rattle.std.proofs.Common.{◌≡◌, pos, take}
use Rattle.std.specs.List.{All}
use Rattle.pb_entry.proofs.standing.is_zero.Given as goal

abbrev pub invariant-loop-coefficient : goal.invariant-loop-coefficient
invariant-loop-coefficient l = All (λ z. z ≡ pos 0) (take l.coefficient-index l.row)
