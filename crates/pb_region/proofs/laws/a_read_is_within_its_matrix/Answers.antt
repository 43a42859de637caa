use Rattle.pb_region.proofs.WithinLemmas.{reads_within}
use Rattle.pb_region.proofs.laws.a_read_is_within_its_matrix.Goals as goal

pub returns : goal.returns
returns c = reads_within
