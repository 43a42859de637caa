use Rattle.std.proofs.Common.{arith}
use Rattle.pb_statements.proofs.SceneLemmas.{laid_within}
use Rattle.pb_statements.proofs.scratch.Scratch.output.Goals as goal

pub returns-then-k-len-clause-shown : goal.returns-then-k-len-clause-shown
returns-then-k-len-clause-shown c = λ _. laid_within c.args.self.now c.args.k c.index.result.now (omega arith) c.index.ensures
