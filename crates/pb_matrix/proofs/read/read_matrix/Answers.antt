use Rattle.pb_matrix.proofs.SpellLemmas.{answer_fits, answer_spelled, spelled_answer}
use Rattle.pb_matrix.proofs.read.read_matrix.Goals as goal

pub returns-clause-spelled : goal.returns-clause-spelled
returns-clause-spelled c = answer_spelled c.args.bytes.now c.read_text.result c.read_text.ensures.reads

pub returns-clause-accepted : goal.returns-clause-accepted
returns-clause-accepted c = spelled_answer c.args.bytes.now c.read_text.result c.read_text.ensures.reads

pub returns-clause-fits : goal.returns-clause-fits
returns-clause-fits c = answer_fits c.args.bytes.now c.read_text.result c.read_text.ensures.reads
