use Rattle.std.proofs.Common.{◌≡◌, IfOk, w64, to_z, of_z, subst, ◌∙◌, arith}
use Rattle.std.specs.Result.{result_err}
use Rattle.std.proofs.lemmas.Int.{to_z-of_z}
use Rattle.std.proofs.lemmas.Result.{IfOk-weaker}
use Rattle.pb_linear.specs.Form.{HasNumbers, numbers}
use Rattle.pb_linear.specs.Numbers.{multiple, refusal, sum_of}
use Rattle.pb_linear.proofs.Rows.{no_numbers, sum_of-no_numbers}
use Rattle.pb_linear.proofs.Values.{exact_value-multiple, value_is}
use Rattle.pb_linear.proofs.form.Form.scale.Goals as goal
use Rattle.pb_linear.proofs.form.Form.scale.Goals.{After-plus_multiple}

same_numbers : (c : After-plus_multiple) → sum_of no_numbers (multiple (to_z w64 (of_z w64 c.args.k)) (numbers c.args.self.now)) ≡ multiple c.args.k (numbers c.args.self.now)
same_numbers c = sum_of-no_numbers (numbers c.args.self.now) c.args.k _ (to_z-of_z w64 c.args.k c.ranges.k) (omega arith) (omega arith) (omega arith) (omega arith)

pub returns-clause-numbers : goal.returns-clause-numbers
returns-clause-numbers c = subst (λ n. IfOk c.plus_multiple.result (HasNumbers n)) (same_numbers c) c.plus_multiple.ensures.numbers

pub returns-clause-over_limit : goal.returns-clause-over_limit
returns-clause-over_limit c = subst (λ n. result_err c.plus_multiple.result ≡ refusal n) (same_numbers c) c.plus_multiple.ensures.over_limit

pub returns-clause-value : goal.returns-clause-value
returns-clause-value c =
    let n = numbers c.args.self.now in
    IfOk-weaker c.plus_multiple.result _ _ (λ f has sizes. value_is (multiple c.args.k n) f has sizes ∙ exact_value-multiple c.args.k n sizes) (subst (λ n. IfOk c.plus_multiple.result (HasNumbers n)) (same_numbers c) c.plus_multiple.ensures.numbers)
