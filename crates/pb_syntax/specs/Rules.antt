-- What contracts see of rules.
use Rattle.std.specs.Prelude.{List}
use Rattle.pb_syntax.specs.declared.tree.statement.StmtText.{StmtText}
use Rattle.pb_syntax.specs.declared.tree.view.CondText.{CondText}
use Rattle.pb_syntax.specs.declared.tree.view.MarkText.{MarkText}
use Rattle.pb_syntax.specs.declared.tree.view.UseText.{UseText}

pub record RuleValue : Type 0 where
  pub mark : MarkText
  pub outs : List UseText
  pub reads : List UseText
  pub conds : List CondText
  pub stmts : List StmtText
