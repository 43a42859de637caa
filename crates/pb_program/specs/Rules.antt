-- What contracts see of rules.
use Rattle.std.specs.Prelude.{ℕ, List, Option}
use Rattle.pb_values.specs.Name.{NameValue}
use Rattle.pb_program.specs.declared.rule.RuleKind.{RuleKind}
use Rattle.pb_program.specs.declared.statement.Stmt.{Stmt}
use Rattle.pb_program.specs.declared.view.Cond.{Cond}
use Rattle.pb_program.specs.declared.view.Read.{Read}
use Rattle.pb_program.specs.Plans.{PlanValue}

pub record BodyValue : Type 0 where
  pub stmts : List Stmt
  pub plan : Option PlanValue

pub record RuleValue : Type 0 where
  pub priority : ℕ
  pub kind : RuleKind
  pub outs : List Read
  pub names : List NameValue
  pub reads : List Read
  pub conds : List Cond
  pub body : BodyValue
