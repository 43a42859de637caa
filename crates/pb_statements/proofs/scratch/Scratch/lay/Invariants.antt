use Rattle.std.proofs.Common.{◌≡◌, ◌+◌, drop, map, take}
use Rattle.pb_linear.specs.Sizes.{sizes_of}
use Rattle.pb_statements.specs.Outputs.{end_of, free_sides, numbers_in}
use Rattle.pb_statements.specs.Stored.{sides_of}
use Rattle.pb_statements.proofs.scratch.Scratch.lay.Given as goal

abbrev pub invariant-loop-out : goal.invariant-loop-out
invariant-loop-out l = record {
  spots : map sides_of l.self.spots.items ≡ map (free_sides l.matrices (sizes_of l.s)) (take l.out-index l.outs);
  end : l.total ≡ end_of 0 l.self.spots.items;
  rest : l.total + numbers_in (map (free_sides l.matrices (sizes_of l.s)) (drop l.out-index l.outs)) ≡ numbers_in (map (free_sides l.matrices (sizes_of l.s)) l.outs);
  locals : l.self.locals ≡ l.initial.self.locals;
  numbers : l.self.numbers ≡ l.initial.self.numbers;
}
