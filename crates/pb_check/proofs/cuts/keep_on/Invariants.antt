use Rattle.std.proofs.Common.{◌≡◌, ◌++◌}
use Rattle.pb_check.specs.Cuts.{kept}
use Rattle.pb_check.proofs.cuts.keep_on.Given as goal

-- what is left gives the rest
abbrev pub invariant-loop-out : goal.invariant-loop-out
invariant-loop-out l = l.boxes.items ++ kept l.matrix l.out-iterator.a.rest.now l.out-iterator.b.rest.items ≡ l.fn.boxes.items ++ kept l.matrix l.outs l.fn.of_rule.items
