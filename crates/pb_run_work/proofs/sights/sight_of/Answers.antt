use Rattle.std.proofs.Common.{◌≡◌, ◌∙◌, ap, get_or, List, map, subst, sym}
use Rattle.std.specs.List.{All}
use Rattle.pb_linear.specs.Sizes.{sizes_of}
use Rattle.pb_linear.specs.declared.sizes.Sizes.{Sizes}
use Rattle.pb_program.specs.Forms.{DeclValue}
use Rattle.pb_program.specs.Rules.{RuleValue}
use Rattle.pb_program.specs.Transforms.{ProgValue, TransformValue}
use Rattle.pb_program.specs.Trees.{bare_rule}
use Rattle.pb_views.specs.declared.seat.Seat.{Seat}
use Rattle.pb_steps.specs.Stands.{AreViewsOf}
use Rattle.pb_steps.specs.Values.{InstanceValue}
use Rattle.pb_run_graph.proofs.MadeLemmas.{same_item}
use Rattle.pb_jobs.specs.Shown.{AreRuleWindows, HasSteadyViews}
use Rattle.pb_run_work.proofs.sights.sight_of.Goals as goal

pub rule_windows-requires-clause-steady : goal.rule_windows-requires-clause-steady
rule_windows-requires-clause-steady c =
    let t = c.requires.transform in
    let x = c.index-transform.result.now in
    let at : x ≡ get_or c.args.a.now.program.transforms c.args.here.now.transform x = c.index-transform.ensures ∙ ap (λ (z : ProgValue × InstanceValue). get_or z.0.transforms z.1.transform x) (λ i. ((c.behind-a.view_is ∙ c.prog.ensures.program) i, c.here.view_is i)) in
    let same : x ≡ t = same_item c.args.a.now.program.transforms c.args.here.now.transform t x c.requires.there at in
    subst (All HasSteadyViews) (sym (c.deref-3.ensures.value ∙ ap (λ (z : TransformValue). z.rules) (c.transform.view_is ∙ same))) c.requires.steady

pub returns : goal.returns
returns c =
    let t = c.requires.transform in
    let x = c.index-transform.result.now in
    let at : x ≡ get_or c.args.a.now.program.transforms c.args.here.now.transform x = c.index-transform.ensures ∙ ap (λ (z : ProgValue × InstanceValue). get_or z.0.transforms z.1.transform x) (λ i. ((c.behind-a.view_is ∙ c.prog.ensures.program) i, c.here.view_is i)) in
    let same : x ≡ t = same_item c.args.a.now.program.transforms c.args.here.now.transform t x c.requires.there at in
    let transform = c.transform.view_is ∙ same in
    let matrices = c.deref.ensures.value ∙ ap (λ (z : TransformValue). z.matrices) transform in
    let seats = c.deref-2.ensures.value ∙ ap (λ (z : InstanceValue). z.seats) c.here.view_is in
    let rules = c.deref-3.ensures.value ∙ ap (λ (z : TransformValue). z.rules) transform in
    record {
      transform = t;
      there = c.requires.there;
      views = subst (λ (z : List DeclValue × List Seat). AreViewsOf z.0 z.1 c.in_ok-views_of.field-0.items) (λ i. (matrices i, seats i)) c.in_ok-views_of.ensures;
      windows = subst (λ (z : Sizes × List RuleValue). AreRuleWindows (sizes_of z.0) (map bare_rule z.1) c.in_ok-rule_windows.field-0.items) (λ i. ((ap (λ (z : InstanceValue). z.sizes) c.here.view_is) i, rules i)) c.in_ok-rule_windows.ensures;
    }
