use Rattle.std.proofs.Common.{negsuc, arith}
use Rattle.std.proofs.lemmas.Int.{ints}
use Rattle.std.proofs.lemmas.Result.{IfOk-weaker}
use Rattle.pb_linear.proofs.Values.{value-sum}
use Rattle.pb_linear.proofs.form.Form.sub.Goals as goal

pub returns-clause-value : goal.returns-clause-value
returns-clause-value c =
    IfOk-weaker c.plus_multiple.result _ _ (λ f has sizes. omega (arith, ints, value-sum c.args.self.now c.args.other.now f (negsuc 0) has sizes)) c.plus_multiple.ensures.numbers
