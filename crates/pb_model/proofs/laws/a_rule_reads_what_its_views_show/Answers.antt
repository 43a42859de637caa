use Rattle.pb_model.proofs.ReadLemmas.{reads_are}
use Rattle.pb_model.proofs.laws.a_rule_reads_what_its_views_show.Goals as goal

pub returns : goal.returns
returns c = reads_are
