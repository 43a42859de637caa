use Rattle.pb_region.proofs.EndLemmas.{small_reads}
use Rattle.pb_region.proofs.laws.ends_of_reads_are_small.Goals as goal

pub returns : goal.returns
returns c = small_reads
