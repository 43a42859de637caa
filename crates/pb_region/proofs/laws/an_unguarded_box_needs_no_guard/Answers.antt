use Rattle.pb_linear.specs.Sizes.{leasts_of}
use Rattle.pb_program.specs.Conditions.{conditions}
use Rattle.pb_region.proofs.GuardLemmas.{unguarded_is}
use Rattle.pb_region.proofs.laws.an_unguarded_box_needs_no_guard.Goals as goal

pub returns : goal.returns
returns c = λ t r number out. unguarded_is (leasts_of t.ranges) (conditions t.matrices r)
