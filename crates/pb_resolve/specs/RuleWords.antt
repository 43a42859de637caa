-- Rules as they are held.
use Rattle.std.specs.Prelude.{List}
use Rattle.pb_syntax.specs.Rules.{RuleValue}
use Rattle.pb_syntax.specs.Trees.{bare_rule}
use Rattle.pb_syntax.specs.WithinLimits.{RuleWithin}
use Rattle.pb_program.specs.Trees.{ProgRule}
use Rattle.pb_names.specs.declared.fault.Fault.{Fault}
use Rattle.pb_names.specs.Bodies.{Visible}
use Rattle.pb_names.specs.Views.{Matrices}
use Rattle.pb_names.specs.Rules.{rule_of, rule_faults}

unfoldable pub rule_in : Matrices → Visible → RuleValue → ProgRule
rule_in ms v r = rule_of ms v (bare_rule r)

unfoldable pub rule_faults_in : Matrices → Visible → RuleValue → List Fault
rule_faults_in ms v r = rule_faults ms v (bare_rule r)

unfoldable pub IsRuleWithin : RuleValue → Type 0
IsRuleWithin r = RuleWithin (bare_rule r)
