use Rattle.std.proofs.Common.{◌∙◌, ap, map}
use Rattle.pb_program.specs.Stmts.{bare_stmt as resolved}
use Rattle.pb_program.specs.Stmts.{stmts}
use Rattle.pb_program.specs.Plans.{calls_of}
use Rattle.pb_syntax.specs.Rules.{RuleValue}
use Rattle.pb_syntax.specs.Stmts.{bare_stmt}
use Rattle.pb_syntax.specs.Trees.{bare_rule}
use Rattle.pb_syntax.specs.declared.tree.view.UseText.{UseText}
use Rattle.pb_names.specs.Bodies.{Visible}
use Rattle.pb_names.specs.Kinds.{some_plans, some_plans_in}
use Rattle.pb_names.specs.Views.{after_outs, after_reads, cond_of, outs_of, reads_of}
use Rattle.pb_names.specs.Rules.{body_of, is_cell, locals_of, plan_by, priority_of}
use Rattle.pb_resolve.proofs.ScopeLemmas.{body_is}
use Rattle.pb_resolve.proofs.RuleLemmas.{rule_is}
use Rattle.pb_resolve.proofs.scope.Scope.rule_within.Goals as goal

pub returns-clause-found : goal.returns-clause-found
unfolding some_plans_in
returns-clause-found c =
    let ms = c.args.matrices.now in
    let v = c.args.self.now in
    let v1 = c.outputs.new.self in
    let v2 = c.reads.new.self in
    let p = c.some_plans-is_plan.result in
    let texts = ap (λ (z : RuleValue). z.stmts) c.r.view_is in
    rule_is ms v (bare_rule c.args.r.now) _ v1 v2 c.some_plans-is_plan.result c.is_cell-is_cell.result (record {
      outs = c.in_ok-outs.ensures.found ∙ ap (outs_of ms v) (c.as_slice-4.ensures.value ∙ ap (λ (z : RuleValue). z.outs) c.r.view_is);
      names = c.in_ok-names.ensures ∙ ap (map (λ (u : UseText). u.bound)) (c.as_slice-3.ensures.value ∙ ap (λ (z : RuleValue). z.outs) c.r.view_is);
      seen_outs = c.in_ok-outs.ensures.left ∙ ap (after_outs v) (c.as_slice-4.ensures.value ∙ ap (λ (z : RuleValue). z.outs) c.r.view_is);
      reads = c.in_ok-reads.ensures.found ∙ ap (reads_of ms v1) (c.as_slice-5.ensures.value ∙ ap (λ (z : RuleValue). z.reads) c.r.view_is);
      seen_reads = c.in_ok-reads.ensures.left ∙ ap (after_reads v1) (c.as_slice-5.ensures.value ∙ ap (λ (z : RuleValue). z.reads) c.r.view_is);
      conds = c.in_ok-conds.ensures.found ∙ ap (map (cond_of v2)) (c.as_slice-6.ensures.value ∙ ap (λ (z : RuleValue). z.conds) c.r.view_is);
      body = c.in_ok-stmts.ensures.listed ∙ body_is v2 c.as_slice-7.result.now ∙ ap (λ ss. body_of v2 (map bare_stmt ss)) (c.as_slice-7.ensures.value ∙ texts);
      planned_is = c.some_plans-is_plan.ensures ∙ ap (λ ss. some_plans (stmts (map resolved ss))) c.as_slice-8.ensures.value;
      cell_is = c.is_cell-is_cell.ensures ∙ ap (is_cell v) (c.as_slice.ensures.value ∙ ap (λ (z : RuleValue). z.outs) c.r.view_is);
      priority = c.priority_of.ensures ∙ ap priority_of (ap (λ (z : RuleValue). z.mark) c.r.view_is);
      kind = c.kind_by.ensures;
      plan = c.in_ok-plan.ensures
          ∙ ap (λ (w : Visible). plan_by p (locals_of w.names (map bare_stmt c.as_slice-9.result.now)) (calls_of (map resolved c.as_slice-10.result.now))) c.in_ok-stmts.ensures.left
          ∙ ap (λ ts. plan_by p (locals_of v2.names (map bare_stmt ts)) (calls_of (map resolved c.as_slice-10.result.now))) (c.as_slice-9.ensures.value ∙ texts)
          ∙ ap (λ ss. plan_by p (locals_of v2.names (map bare_stmt c.args.r.now.stmts)) (calls_of (map resolved ss))) c.as_slice-10.ensures.value;
    })
