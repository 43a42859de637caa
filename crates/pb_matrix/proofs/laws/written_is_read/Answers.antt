use Rattle.pb_matrix.proofs.LawLemmas.{read_again}
use Rattle.pb_matrix.proofs.laws.written_is_read.Goals as goal

pub returns : goal.returns
returns c = read_again
