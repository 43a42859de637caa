use Rattle.std.proofs.Common.{w64}
use Rattle.std.proofs.lemmas.Int.{to_z-of_z}
use Rattle.pb_names.proofs.SumLemmas.{within_fits}
use Rattle.pb_names.proofs.SumLemmas.{within_number, row_numbers}
use Rattle.pb_resolve.proofs.sum.Sum.into_coordinate.Goals as goal

pub invariant_of-rest : goal.invariant_of-rest
invariant_of-rest c = let s = c.args.self in record {
  small_constant = let e = to_z-of_z w64 s.constant (within_fits s.terms s.constant c.requires s.small_constant) in rw e (within_number s.terms s.constant c.requires s.small_constant);
  small_whole = row_numbers s.terms s.whole c.requires s.small_whole;
  small_half = row_numbers s.terms s.half c.requires s.small_half;
  small_third = row_numbers s.terms s.third c.requires s.small_third;
  small_quarter = row_numbers s.terms s.quarter c.requires s.small_quarter;
}
