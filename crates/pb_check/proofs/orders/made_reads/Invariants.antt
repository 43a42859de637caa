use Rattle.std.proofs.Common.{◌≡◌, map, take}
use Rattle.std.specs.List.{enumerate_from, flat_map}
use Rattle.pb_program.specs.Trees.{bare_transform}
use Rattle.pb_region.specs.Reads.{read_value, reads_of}
use Rattle.pb_check.proofs.orders.made_reads.Given as goal

abbrev pub invariant-loop-r : goal.invariant-loop-r
invariant-loop-r l = map read_value l.reads.items ≡ flat_map (λ r. reads_of (bare_transform l.transform) r.0 r.1) (enumerate_from 0 (take l.r (bare_transform l.transform).rules))
