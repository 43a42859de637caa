-- The tree of a program without pointers, over which definitions recurse.
use Rattle.std.specs.Prelude.{ℕ, List, map}
use Rattle.pb_values.specs.Name.{NameValue}
use Rattle.pb_syntax.specs.Forms.{DeclValue}
use Rattle.pb_syntax.specs.Stmts.{StmtTree, bare_stmt}
use Rattle.pb_syntax.specs.Rules.{RuleValue}
use Rattle.pb_syntax.specs.Transforms.{TransformValue, TextValue}
use Rattle.pb_syntax.specs.declared.tree.view.CondText.{CondText}
use Rattle.pb_syntax.specs.declared.tree.view.MarkText.{MarkText}
use Rattle.pb_syntax.specs.declared.tree.view.UseText.{UseText}

pub record RuleTree : Type 0 where
  pub mark : MarkText
  pub outs : List UseText
  pub reads : List UseText
  pub conds : List CondText
  pub body : List StmtTree

pub record TransformTree : Type 0 where
  pub name : NameValue
  pub minimums : List (NameValue × ℕ)
  pub from : List DeclValue
  pub through : List DeclValue
  pub to : List DeclValue
  pub rules : List RuleTree

abbrev pub bare_rule : RuleValue → RuleTree
bare_rule r = record { mark = r.mark; outs = r.outs; reads = r.reads; conds = r.conds; body = map bare_stmt r.stmts }

abbrev pub bare_transform : TransformValue → TransformTree
bare_transform t = record { name = t.name; minimums = t.minimums; from = t.from; through = t.through; to = t.to; rules = map bare_rule t.rules }

abbrev pub bare_text : TextValue → List TransformTree
bare_text t = map bare_transform t.transforms
