use Rattle.std.proofs.Common.{rules, [], ◌++◌, map, subst}
use Rattle.std.specs.List.{flat_map}
use Rattle.pb_syntax.specs.Trees.{bare_rule, bare_transform}
use Rattle.pb_names.specs.Faults.{Fails}
use Rattle.pb_names.specs.Turns.{turn_faults}
use Rattle.pb_names.specs.Bodies.{Visible}
use Rattle.pb_names.specs.Rules.{rule_faults}
use Rattle.pb_names.specs.Transforms.{decls_faults, matrices_of, minimum_faults, next_minimum, transform_faults}
use Rattle.pb_resolve.proofs.FaultLemmas.{fails_left}
use Rattle.pb_resolve.proofs.transform.transform.Goals as goal

pub returns-in_err-minimums-clause-refused : goal.returns-in_err-minimums-clause-refused
returns-in_err-minimums-clause-refused c =
    let t = bare_transform c.args.t.now in
    let f = c.in_err-minimums.field-0.0 in
    let v = c.in_ok-scope.scope in
    let later = decls_faults v t ++ flat_map (rule_faults (matrices_of t) v) (map bare_rule c.args.t.now.rules) in
    let h : Fails f (transform_faults c.args.transforms.now t) = subst (λ (w : Visible). Fails f (turn_faults next_minimum (minimum_faults w) [] t.minimums ++ (decls_faults w t ++ flat_map (rule_faults (matrices_of t) w) (map bare_rule c.args.t.now.rules))))
    c.in_ok-scope.ensures.scope
    (fails_left f (turn_faults next_minimum (minimum_faults v) [] t.minimums) later c.in_err-minimums.ensures.refused) in
    search (rules, h, c.from_residual-in_err-minimums.ensures)
