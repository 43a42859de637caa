use Rattle.pb_region.specs.Boxes.{gaps_of}
use Rattle.pb_region.proofs.AreaLemmas.{wide_inside}
use Rattle.pb_region.proofs.FreeLemmas.{all_guards}
use Rattle.pb_region.proofs.laws.a_wide_box_is_its_area.Goals as goal

pub returns-clause-inside : goal.returns-clause-inside
returns-clause-inside c = λ t r number out d wide there. wide_inside r.kind wide (gaps_of t.matrices r) t.matrices out d there

pub returns-clause-guards : goal.returns-clause-guards
returns-clause-guards c = all_guards
