use Rattle.std.proofs.Common.{◌≡◌, drop}
use Rattle.std.specs.List.{list_any}
use Rattle.pb_names.specs.Kinds.{calls_in}
use Rattle.pb_names.proofs.kind.+calls.Given as goal

abbrev pub invariant-some_calls-loop-next : goal.invariant-some_calls-loop-next
invariant-some_calls-loop-next l = list_any calls_in (drop l.next-index l.xs) ≡ list_any calls_in l.xs

abbrev pub invariant-operands_call-loop-next : goal.invariant-operands_call-loop-next
invariant-operands_call-loop-next l = list_any (λ o. calls_in o.1) (drop l.next-index l.xs) ≡ list_any (λ o. calls_in o.1) l.xs
