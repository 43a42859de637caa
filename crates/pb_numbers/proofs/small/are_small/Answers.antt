use Rattle.std.proofs.Common.{arith, to_z-of_z}
use Rattle.std.proofs.lemmas.Bool.Decides.{nat_tests}
use Rattle.pb_numbers.proofs.SmallLemmas.{first_small, fourth_small, second_small, third_small}
use Rattle.pb_numbers.proofs.small.are_small.Goals as goal

pub returns-clause-a : goal.returns-clause-a
returns-clause-a c small = let back = to_z-of_z c.ranges.a in rw back at (c.above.ensures (let h = first_small c.above.result c.above-2.result c.above-3.result c.above-4.result small in grind (arith, nat_tests)))

pub returns-clause-b : goal.returns-clause-b
returns-clause-b c small = let back = to_z-of_z c.ranges.b in rw back at (c.above-2.ensures (let h = second_small c.above.result c.above-2.result c.above-3.result c.above-4.result small in grind (arith, nat_tests)))

pub returns-clause-c : goal.returns-clause-c
returns-clause-c c small = let back = to_z-of_z c.ranges.c in rw back at (c.above-3.ensures (let h = third_small c.above.result c.above-2.result c.above-3.result c.above-4.result small in grind (arith, nat_tests)))

pub returns-clause-d : goal.returns-clause-d
returns-clause-d c small = let back = to_z-of_z c.ranges.d in rw back at (c.above-4.ensures (let h = fourth_small c.above.result c.above-2.result c.above-3.result c.above-4.result small in grind (arith, nat_tests)))
