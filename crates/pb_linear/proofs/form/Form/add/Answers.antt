use Rattle.std.proofs.Common.{◌≡◌, IfOk, pos, subst, arith}
use Rattle.std.proofs.lemmas.Int.{ints}
use Rattle.std.specs.Result.{result_err}
use Rattle.std.proofs.lemmas.Result.{IfOk-weaker}
use Rattle.pb_linear.specs.Form.{HasNumbers, numbers}
use Rattle.pb_linear.specs.Numbers.{refusal, sum_of}
use Rattle.pb_linear.proofs.Rows.{multiple-once}
use Rattle.pb_linear.proofs.Values.{value-sum}
use Rattle.pb_linear.proofs.form.Form.add.Goals as goal

pub returns-clause-numbers : goal.returns-clause-numbers
returns-clause-numbers c = subst (λ n. IfOk c.plus_multiple.result (HasNumbers (sum_of (numbers c.args.self.now) n))) (multiple-once (numbers c.args.other.now)) c.plus_multiple.ensures.numbers

pub returns-clause-over_limit : goal.returns-clause-over_limit
returns-clause-over_limit c = subst (λ n. result_err c.plus_multiple.result ≡ refusal (sum_of (numbers c.args.self.now) n)) (multiple-once (numbers c.args.other.now)) c.plus_multiple.ensures.over_limit

pub returns-clause-value : goal.returns-clause-value
returns-clause-value c = IfOk-weaker c.plus_multiple.result _ _ (λ f has sizes. omega (arith, ints, value-sum c.args.self.now c.args.other.now f (pos 1) has sizes)) c.plus_multiple.ensures.numbers
