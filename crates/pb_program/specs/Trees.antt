-- A program without pointers, over which definitions recurse.
use Rattle.std.specs.Prelude.{ℕ, List, Option, map}
use Rattle.pb_linear.specs.declared.sizes.Ranges.{Ranges}
use Rattle.pb_values.specs.Name.{NameValue}
use Rattle.pb_program.specs.declared.rule.RuleKind.{RuleKind}
use Rattle.pb_program.specs.Forms.{DeclValue}
use Rattle.pb_program.specs.declared.view.Cond.{Cond}
use Rattle.pb_program.specs.declared.view.Read.{Read}
use Rattle.pb_program.specs.Plans.{PlanValue}
use Rattle.pb_program.specs.Rules.{RuleValue}
use Rattle.pb_program.specs.Stmts.{StmtValue, bare_stmt}
use Rattle.pb_program.specs.Transforms.{TransformValue, ProgValue}

pub record ProgRule : Type 0 where
  pub priority : ℕ
  pub kind : RuleKind
  pub outs : List Read
  pub names : List NameValue
  pub reads : List Read
  pub conds : List Cond
  pub body : List StmtValue
  pub plan : Option PlanValue

pub record ProgTransform : Type 0 where
  pub name : NameValue
  pub ranges : Ranges
  pub sizes : List NameValue
  pub matrices : List DeclValue
  pub inputs : ℕ
  pub middles : ℕ
  pub rules : List ProgRule

abbrev pub bare_rule : RuleValue → ProgRule
bare_rule r = record {
  priority = r.priority;
  kind = r.kind;
  outs = r.outs;
  names = r.names;
  reads = r.reads;
  conds = r.conds;
  body = map bare_stmt r.body.stmts;
  plan = r.body.plan;
}

abbrev pub bare_transform : TransformValue → ProgTransform
bare_transform t = record {
  name = t.name;
  ranges = t.ranges;
  sizes = t.sizes;
  matrices = t.matrices;
  inputs = t.inputs;
  middles = t.middles;
  rules = map bare_rule t.rules;
}

abbrev pub bare_prog : ProgValue → List ProgTransform
bare_prog p = map bare_transform p.transforms
