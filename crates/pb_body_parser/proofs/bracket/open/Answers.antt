use Rattle.std.proofs.Common.{rules}
use Rattle.pb_body_parser.proofs.ReadLemmas.{bad_token}
use Rattle.pb_body_parser.proofs.bracket.open.Goals as goal

pub returns-clause-leads : goal.returns-clause-leads
returns-clause-leads c = rw c.bad.ensures (λ w. bad_token c.args.cursor.now.end c.args.cursor.now.rest.now _ c.args.kind (λ _. w) (search rules))
