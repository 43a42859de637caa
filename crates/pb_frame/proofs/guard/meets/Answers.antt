use Rattle.std.proofs.Common.{◌≡◌, ◌∙◌, ◌&&◌, ap, sym}
use Rattle.std.specs.List.{list_all}
use Rattle.pb_linear.specs.Sizes.{sizes_of}
use Rattle.pb_program.specs.Conditions.{view_conditions, written}
use Rattle.pb_program.specs.Rules.{RuleValue}
use Rattle.pb_program.specs.declared.view.Cond.{Cond}
use Rattle.pb_program.specs.declared.view.Read.{Read}
use Rattle.pb_program.specs.Trees.{bare_rule}
use Rattle.pb_frame.specs.Choices.{is_met}
use Rattle.pb_frame.proofs.GuardLemmas.{meets_split}
use Rattle.pb_frame.proofs.guard.meets.Goals as goal

pub returns : goal.returns
returns c =
    let rule = c.args.rule.now in
    let p = is_met (sizes_of c.args.s.now) in
    let matrices = c.args.matrices.now in
    let outs : c.deref.result.now ≡ rule.outs = c.deref.ensures.value ∙ ap (λ (x : RuleValue). x.outs) c.rule.view_is in
    let reads : c.deref-2.result.now ≡ rule.reads = c.deref-2.ensures.value ∙ ap (λ (x : RuleValue). x.reads) c.rule.view_is in
    let conds : c.deref-3.result.now ≡ rule.conds = c.deref-3.ensures.value ∙ ap (λ (x : RuleValue). x.conds) c.rule.view_is in
    let of_outs = c.meet_all.ensures ∙ ap (list_all (λ (r : Read). list_all p (view_conditions matrices r))) outs in
    let of_reads = c.meet_all-2.ensures ∙ ap (list_all (λ (r : Read). list_all p (view_conditions matrices r))) reads in
    let of_conds = c.meet_conds.ensures ∙ ap (list_all (λ (d : Cond). list_all p (written d))) conds in
    c.both.ensures ∙ ap (λ v. v && c.meet_conds.result) (c.both-views.ensures ∙ ap (λ k. k && c.meet_all-2.result) of_outs ∙ ap (λ k. list_all (λ (r : Read). list_all p (view_conditions matrices r)) rule.outs && k) of_reads)
    ∙ ap (λ k. (list_all (λ (r : Read). list_all p (view_conditions matrices r)) rule.outs && list_all (λ (r : Read). list_all p (view_conditions matrices r)) rule.reads) && k) of_conds
    ∙ sym (meets_split matrices (sizes_of c.args.s.now) (bare_rule rule))
