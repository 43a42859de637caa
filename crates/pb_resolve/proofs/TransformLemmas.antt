-- Rules as they are held, and as definitions see them.
use Rattle.std.proofs.Common.{◌≡◌, List, [], ◌∷◌, ◌++◌, map, refl, ap}
use Rattle.std.specs.List.{AllByRecursion, flat_map}
use Rattle.pb_syntax.specs.Rules.{RuleValue}
use Rattle.pb_syntax.specs.Trees.{bare_rule}
use Rattle.pb_syntax.specs.WithinLimits.{RuleWithin}
use Rattle.pb_names.specs.Bodies.{Visible}
use Rattle.pb_names.specs.Views.{Matrices}
use Rattle.pb_names.specs.Rules.{rule_of, rule_faults}
use Rattle.pb_resolve.specs.RuleWords.{rule_in, rule_faults_in, IsRuleWithin}

pub rules_are : (ms : Matrices) (v : Visible) (rs : List RuleValue) → map (rule_in ms v) rs ≡ map (rule_of ms v) (map bare_rule rs)
unfolding rule_in
rules_are ms v [] = refl
rules_are ms v (r ∷ rs) = ap (λ l. rule_in ms v r ∷ l) (rules_are ms v rs)

pub rules_faults_are : (ms : Matrices) (v : Visible) (rs : List RuleValue) → flat_map (rule_faults_in ms v) rs ≡ flat_map (rule_faults ms v) (map bare_rule rs)
unfolding rule_faults_in
rules_faults_are ms v [] = refl
rules_faults_are ms v (r ∷ rs) = ap (λ l. rule_faults_in ms v r ++ l) (rules_faults_are ms v rs)

pub rules_within : (rs : List RuleValue) → AllByRecursion RuleWithin (map bare_rule rs) → AllByRecursion IsRuleWithin rs
unfolding IsRuleWithin
rules_within [] h = h
rules_within (r ∷ rs) h = (h.0, rules_within rs h.1)
