use Rattle.pb_parser.proofs.Answers.{found, refused}
use Rattle.pb_parser.proofs.transform.parse.Goals as goal

pub returns-clause-found : goal.returns-clause-found
returns-clause-found c = rw c.refused_with.ensures (found c.args.tokens.now c.args.end c.read_program.result c.read_program.ensures.read)

pub returns-clause-refused : goal.returns-clause-refused
returns-clause-refused c = rw c.refused_with.ensures (refused c.args.tokens.now c.args.end c.read_program.result c.read_program.ensures.read)
