use Rattle.std.proofs.Common.{◌≡◌, ◌+◌, ◌-◌, ◌^◌, ◌<◌, drop, map, min}
use Rattle.pb_linear.specs.Sizes.{sizes_of}
use Rattle.pb_statements.specs.Outputs.{free_sides, numbers_in}
use Rattle.pb_eval.proofs.room.outs_room.Given as goal

abbrev pub invariant-loop-out : goal.invariant-loop-out
invariant-loop-out l = record {
  capped : min (2 ^ 64 - 1) (l.total + numbers_in (map (free_sides l.matrices (sizes_of l.s)) (drop l.out-index l.outs)))
      ≡ min (2 ^ 64 - 1) (numbers_in (map (free_sides l.matrices (sizes_of l.s)) l.outs));
  small : l.total < 2 ^ 64;
}
