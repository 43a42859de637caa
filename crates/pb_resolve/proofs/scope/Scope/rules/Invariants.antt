use Rattle.std.proofs.Common.{◌≡◌, ◌++◌, map, drop}
use Rattle.std.specs.List.{AllByRecursion, flat_map}
use Rattle.pb_program.specs.Trees.{bare_rule}
use Rattle.pb_resolve.specs.RuleWords.{rule_in, rule_faults_in, IsRuleWithin}
use Rattle.pb_resolve.proofs.scope.Scope.rules.Given as goal

abbrev pub invariant-loop-next : goal.invariant-loop-next
invariant-loop-next l = (map bare_rule l.found.items ++ map (rule_in l.matrices l.initial.self) (drop l.next-index l.rules) ≡ map (rule_in l.matrices l.initial.self) l.rules)
    × (flat_map (rule_faults_in l.matrices l.initial.self) (drop l.next-index l.rules) ≡ flat_map (rule_faults_in l.matrices l.initial.self) l.rules)
    × (l.self ≡ l.initial.self) × AllByRecursion IsRuleWithin (drop l.next-index l.rules)
