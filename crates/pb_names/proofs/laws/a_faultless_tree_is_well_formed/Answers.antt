use Rattle.pb_names.proofs.TransformsFit.{well_formed}
use Rattle.pb_names.proofs.laws.a_faultless_tree_is_well_formed.Goals as goal

pub returns : goal.returns
returns c = well_formed
