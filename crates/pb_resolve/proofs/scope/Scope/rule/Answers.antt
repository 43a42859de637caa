use Rattle.pb_syntax.specs.Trees.{bare_rule}
use Rattle.pb_resolve.proofs.ScopeLemmas.{back_rule}
use Rattle.pb_resolve.proofs.scope.Scope.rule.Goals as goal

pub returns-clause-left : goal.returns-clause-left
returns-clause-left c =
    back_rule c.args.self.now c.rule_within.new.self c.leave.new.self (bare_rule c.args.r.now) c.mark-mark.result c.in_ok-rule.ensures.left c.mark-mark.ensures c.leave.ensures
