-- What contracts see of transforms and whole programs.
use Rattle.std.specs.Prelude.{ℕ, List}
use Rattle.pb_linear.specs.declared.sizes.Ranges.{Ranges}
use Rattle.pb_values.specs.Name.{NameValue}
use Rattle.pb_program.specs.Forms.{DeclValue}
use Rattle.pb_program.specs.Rules.{RuleValue}

pub record TransformValue : Type 0 where
  pub name : NameValue
  pub ranges : Ranges
  pub sizes : List NameValue
  pub matrices : List DeclValue
  pub inputs : ℕ
  pub middles : ℕ
  pub rules : List RuleValue

pub record ProgValue : Type 0 where
  pub transforms : List TransformValue
