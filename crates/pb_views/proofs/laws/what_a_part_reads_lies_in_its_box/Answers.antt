use Rattle.pb_views.proofs.HullLemmas.{in_hull}
use Rattle.pb_views.proofs.laws.what_a_part_reads_lies_in_its_box.Goals as goal

pub returns : goal.returns
returns c = λ w matrix part x y u v. in_hull w matrix part x y u v
