use Rattle.pb_region.proofs.SmallLemmas.{at_place}
use Rattle.pb_calls.specs.Handed.{IsBounded}
use Rattle.pb_calls.proofs.Handed.{all_at}
use Rattle.pb_program.specs.WellFormed.{IsTransform}
use Rattle.std.specs.Prelude.{length}
use Rattle.pb_recursion.proofs.EnterLemmas.{binds, enters}
use Rattle.pb_recursion.proofs.laws.given_matrices_can_enter.Goals as goal

pub returns-clause-enters : goal.returns-clause-enters
returns-clause-enters c = λ p number t sizes ins well sound at range given. enters (length p) t (at_place (IsTransform (length p)) p number t well.transforms at) (all_at IsBounded p number t sound.bounded at).sides sizes range ins given

pub returns-clause-sizes : goal.returns-clause-sizes
returns-clause-sizes c = λ p number t sizes ins well sound at range given. binds (length p) t (at_place (IsTransform (length p)) p number t well.transforms at) (all_at IsBounded p number t sound.bounded at).sides sizes range ins given
