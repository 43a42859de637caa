-- A rule, part by part.
use Rattle.std.proofs.Common.{◌≡◌, Bool, map, ap, ◌∙◌}
use Rattle.pb_syntax.specs.Trees.{RuleTree}
use Rattle.pb_syntax.specs.declared.tree.view.UseText.{UseText}
use Rattle.pb_program.specs.Plans.{calls_of}
use Rattle.pb_program.specs.Stmts.{stmts}
use Rattle.pb_program.specs.Trees.{ProgRule}
use Rattle.pb_names.specs.Bodies.{Visible}
use Rattle.pb_names.specs.Kinds.{some_plans}
use Rattle.pb_names.specs.Views.{Matrices, outs_of, after_outs, reads_of, after_reads, cond_of}
use Rattle.pb_names.specs.Rules.{body_of, inner, is_cell, is_plan, kind_by, locals_of, plan_by, priority_of, rule_of}

-- what is found of a rule, each part from what was seen before it
pub record Found (ms : Matrices) (v : Visible) (r : RuleTree) (x : ProgRule) (v1 v2 : Visible) (planned cell : Bool) : Type 0 where
  pub outs : x.outs ≡ outs_of ms v r.outs
  pub names : x.names ≡ map (λ (u : UseText). u.bound) r.outs
  pub seen_outs : v1 ≡ after_outs v r.outs
  pub reads : x.reads ≡ reads_of ms v1 r.reads
  pub seen_reads : v2 ≡ after_reads v1 r.reads
  pub conds : x.conds ≡ map (cond_of v2) r.conds
  pub body : x.body ≡ body_of v2 r.body
  pub planned_is : planned ≡ some_plans (stmts x.body)
  pub cell_is : cell ≡ is_cell v r.outs
  pub priority : x.priority ≡ priority_of r.mark
  pub kind : x.kind ≡ kind_by planned cell
  pub plan : x.plan ≡ plan_by planned (locals_of v2.names r.body) (calls_of x.body)

pub rule_is : (ms : Matrices) (v : Visible) (r : RuleTree) (x : ProgRule) (v1 v2 : Visible) (planned cell : Bool) → Found ms v r x v1 v2 planned cell → x ≡ rule_of ms v r
rule_is ms v r x v1 v2 planned cell f =
    let seen : v2 ≡ inner v r = f.seen_reads ∙ ap (λ w. after_reads w r.reads) f.seen_outs in
    let reads : x.reads ≡ reads_of ms (after_outs v r.outs) r.reads = f.reads ∙ ap (λ w. reads_of ms w r.reads) f.seen_outs in
    let conds : x.conds ≡ map (cond_of (inner v r)) r.conds = f.conds ∙ ap (λ w. map (cond_of w) r.conds) seen in
    let body : x.body ≡ body_of (inner v r) r.body = f.body ∙ ap (λ w. body_of w r.body) seen in
    let is : planned ≡ is_plan v r = f.planned_is ∙ ap (λ b. some_plans (stmts b)) body in
    let kind : x.kind ≡ kind_by (is_plan v r) (is_cell v r.outs) = f.kind ∙ (λ i. kind_by (is i) (f.cell_is i)) in
    let plan : x.plan ≡ plan_by (is_plan v r) (locals_of (inner v r).names r.body) (calls_of (body_of (inner v r) r.body))
    = f.plan ∙ (λ i. plan_by (is i) (locals_of (seen i).names r.body) (calls_of (body i))) in
    λ i. record { priority = f.priority i; kind = kind i; outs = f.outs i; names = f.names i; reads = reads i; conds = conds i; body = body i; plan = plan i }
