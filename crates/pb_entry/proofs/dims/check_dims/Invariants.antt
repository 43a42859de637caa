use Rattle.std.proofs.Common.{take}
use Rattle.std.specs.List.{All, zip}
use Rattle.pb_entry.specs.Fitting.{HasDims}
use Rattle.pb_entry.proofs.dims.check_dims.Given as goal

abbrev pub invariant-loop-number : goal.invariant-loop-number
invariant-loop-number l = All HasDims (take l.number (zip l.matrices l.inputs))
