use Rattle.std.proofs.Common.{◌≡◌, take}
use Rattle.pb_frame.specs.Frames.{greatest}
use Rattle.pb_frame.proofs.parts.greatest_of.Given as goal

abbrev pub invariant-loop-number : goal.invariant-loop-number
invariant-loop-number l = l.top ≡ greatest (take l.number-index l.numbers)
