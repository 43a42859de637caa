use Rattle.std.proofs.Common.{◌≡◌, IfOk, subst}
use Rattle.std.specs.Result.{result_err}
use Rattle.std.proofs.lemmas.Result.{IfOk-weaker}
use Rattle.pb_linear.specs.Form.{HasNumbers}
use Rattle.pb_linear.specs.Numbers.{refusal}
use Rattle.pb_linear.specs.VForm.{worst_numbers}
use Rattle.pb_linear.proofs.Worst.{same_worst, worst_greatest, worst_reached}
use Rattle.pb_linear.proofs.vform.VForm.worst.Goals as goal
use Rattle.pb_linear.proofs.vform.VForm.worst.Goals.{After-put}

has_worst : (c : After-put) → IfOk c.put.result (HasNumbers (worst_numbers c.args.self.now c.args.area.now))
has_worst c =
    subst (λ n. IfOk c.put.result (HasNumbers n)) (same_worst c.args.self.now c.args.area.now _ _ c.end_for.ensures c.end_for-2.ensures) c.put.ensures.numbers

pub returns-clause-numbers : goal.returns-clause-numbers
returns-clause-numbers c = has_worst c

pub returns-clause-over_limit : goal.returns-clause-over_limit
returns-clause-over_limit c =
    subst (λ n. result_err c.put.result ≡ refusal n) (same_worst c.args.self.now c.args.area.now _ _ c.end_for.ensures c.end_for-2.ensures) c.put.ensures.over_limit

pub returns-clause-greatest : goal.returns-clause-greatest
returns-clause-greatest c = IfOk-weaker c.put.result _ _ (worst_greatest c.args.self.now c.args.area.now) (has_worst c)

pub returns-clause-reached : goal.returns-clause-reached
returns-clause-reached c = IfOk-weaker c.put.result _ _ (worst_reached c.args.self.now c.args.area.now) (has_worst c)
