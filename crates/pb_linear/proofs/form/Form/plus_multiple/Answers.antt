use Rattle.std.proofs.Common.{◌≡◌, FitsSigned, IfOk, pos, w64, to_z, of_z, subst, ap, rules}
use Rattle.std.specs.Result.{result_err}
use Rattle.std.proofs.lemmas.Int.{to_z-of_z}
use Rattle.pb_linear.specs.Form.{HasNumbers, numbers}
use Rattle.pb_linear.specs.Numbers.{multiple, refusal, sum_of, with_constant}
use Rattle.pb_linear.proofs.Rows.{put_multiple}
use Rattle.pb_linear.proofs.form.Form.plus_multiple.Goals as goal
use Rattle.pb_linear.proofs.form.Form.plus_multiple.Goals.{After-put}

-- the numbers that `put` made, without the casts
same_numbers : (c : After-put) → sum_of (numbers c.args.self.now) (sum_of (multiple (to_z w64 (of_z w64 c.args.k)) (with_constant (to_z w64 (of_z w64 c.args.other.now.constant)) (numbers c.args.other.now))) (multiple (pos 0) (with_constant (to_z w64 (of_z w64 c.args.other.now.constant)) (numbers c.args.other.now)))) ≡ sum_of (numbers c.args.self.now) (multiple c.args.k (numbers c.args.other.now))
same_numbers c =
    let other = c.args.other.now in
    let fits : FitsSigned w64 other.constant = search rules in
    put_multiple (numbers c.args.self.now) (numbers other) _ c.args.k _ (to_z-of_z w64 c.args.k c.ranges.k) (ap (λ z. with_constant z (numbers other)) (to_z-of_z w64 other.constant fits))

pub returns-clause-numbers : goal.returns-clause-numbers
returns-clause-numbers c = subst (λ n. IfOk c.put.result (HasNumbers n)) (same_numbers c) c.put.ensures.numbers

pub returns-clause-over_limit : goal.returns-clause-over_limit
returns-clause-over_limit c = subst (λ n. result_err c.put.result ≡ refusal n) (same_numbers c) c.put.ensures.over_limit
