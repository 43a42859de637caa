use Rattle.std.proofs.Common.{◌≡◌, drop}
use Rattle.std.specs.List.{flat_map}
use Rattle.pb_types.specs.declared.sort.Sort.TheVariants.{Number}
use Rattle.pb_types.specs.Least.{least, least_of}
use Rattle.pb_types.specs.Working.{operand_in, pair_in}
use Rattle.pb_types.proofs.views.Bound.+expression.Given as goal

abbrev pub invariant-numbers-loop-next : goal.invariant-numbers-loop-next
invariant-numbers-loop-next l = least l.found (least_of (flat_map (operand_in l.self Number) (drop l.next-index l.numbers))) ≡ least_of (flat_map (operand_in l.self Number) l.numbers)

abbrev pub invariant-operands-loop-next : goal.invariant-operands-loop-next
invariant-operands-loop-next l = least l.found (least_of (flat_map (pair_in l.self l.taken) (drop l.next-index l.rest))) ≡ least_of (flat_map (pair_in l.self l.taken) l.rest)
