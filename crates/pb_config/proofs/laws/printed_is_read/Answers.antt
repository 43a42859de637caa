use Rattle.pb_config.proofs.AgainLemmas.{read_again}
use Rattle.pb_config.proofs.laws.printed_is_read.Goals as goal

pub returns : goal.returns
returns c = read_again
