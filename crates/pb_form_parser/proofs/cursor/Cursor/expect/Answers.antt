use Rattle.std.proofs.Common.{rules}
use Rattle.pb_form_parser.proofs.NextLemmas.{bad_kind}
use Rattle.pb_form_parser.proofs.cursor.Cursor.expect.Goals as goal

pub returns-then-not-sees-clause-leads : goal.returns-then-not-sees-clause-leads
returns-then-not-sees-clause-leads c = rw c.bad.ensures (λ f. bad_kind c.args.self.now.end c.args.self.now.rest.now c.args.kind f (search rules))
