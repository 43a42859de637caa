use Rattle.pb_check.proofs.PlaceLemmas.{sound_again}
use Rattle.pb_check.proofs.laws.soundness_doesnt_depend_on_places.Goals as goal

pub returns : goal.returns
returns c = sound_again
