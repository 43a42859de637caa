use Rattle.pb_front.proofs.CanonicalLemmas.{read_again, its_own}
use Rattle.pb_front.proofs.laws.a_canonical_text_is_read.Goals as goal

pub returns-clause-read : goal.returns-clause-read
returns-clause-read c = read_again

pub returns-clause-its_own : goal.returns-clause-its_own
returns-clause-its_own c = its_own
