-- What contracts see of transforms and whole programs.
use Rattle.std.specs.Prelude.{ℕ, List}
use Rattle.pb_values.specs.Name.{NameValue}
use Rattle.pb_syntax.specs.Forms.{DeclValue}
use Rattle.pb_syntax.specs.Rules.{RuleValue}

pub record TransformValue : Type 0 where
  pub name : NameValue
  pub minimums : List (NameValue × ℕ)
  pub from : List DeclValue
  pub through : List DeclValue
  pub to : List DeclValue
  pub rules : List RuleValue

pub record TextValue : Type 0 where
  pub transforms : List TransformValue
