use Rattle.std.proofs.Common.{◌≡◌, ◌++◌, map, drop}
use Rattle.std.specs.List.{flat_map}
use Rattle.pb_program.specs.Exprs.{bare}
use Rattle.pb_resolve.specs.Working.{expr_in, faults_in, operand_in, operand_faults_in}
use Rattle.pb_resolve.proofs.scope.Scope.+expression.Given as goal

abbrev pub invariant-expressions-loop-next : goal.invariant-expressions-loop-next
invariant-expressions-loop-next l =
    (map bare l.found.items ++ map (expr_in l.self) (drop l.next-index l.expressions) ≡ map (expr_in l.self) l.expressions)
    × (flat_map (faults_in l.self) (drop l.next-index l.expressions) ≡ flat_map (faults_in l.self) l.expressions)

abbrev pub invariant-operands-loop-next : goal.invariant-operands-loop-next
invariant-operands-loop-next l =
    (map (λ o. (o.0, bare o.1)) l.found.items ++ map (operand_in l.self) (drop l.next-index l.rest) ≡ map (operand_in l.self) l.rest)
    × (flat_map (operand_faults_in l.self) (drop l.next-index l.rest) ≡ flat_map (operand_faults_in l.self) l.rest)
