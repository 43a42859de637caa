use Rattle.std.proofs.Common.{◌≡◌, ◌<◌, ◌≤◌, ◌*◌, ◌∙◌, ℕ, ap, sym, length, min, arith}
use Rattle.pb_linear.specs.Sizes.{sizes_of}
use Rattle.pb_program.specs.Trees.{bare_prog, bare_rule}
use Rattle.pb_program.specs.declared.view.Read.{Read}
use Rattle.pb_statements.specs.Outputs.{free_by, free_sides}
use Rattle.pb_eval.proofs.HeldLemmas.{of_rule}
use Rattle.pb_statements.proofs.OutLemmas.{at_matrix, rest_next, sides_here}
use Rattle.pb_eval.proofs.RoomLemmas.{most_end, most_next, needed_is, there_here}
use Rattle.pb_eval.proofs.room.outs_room.Goals as goal

pub bounds-matrices-out : goal.bounds-matrices-out
bounds-matrices-out c =
    let run = c.requires.runnable _ _ c.in-Some.ensures.found c.in-Some-rule_at.ensures.found in
    let inside : c.loop-out.out-index < length c.outs_of_rule-outs.result.now = omega arith in
    at_matrix c.matrices_of-matrices.result.now c.outs_of_rule-outs.result.now c.loop-out.out-index c.out-item.result inside c.out-item.is (there_here _ _ _ _ c.outs_of_rule-outs.ensures c.matrices_of-matrices.ensures run.there)

pub loop-out-preserved : goal.loop-out-preserved
loop-out-preserved c =
    let run = c.requires.runnable _ _ c.in-Some.ensures.found c.in-Some-rule_at.ensures.found in
    let out = c.out-item.result in
    let ms = c.matrices_of-matrices.result.now in
    let F : Read → ℕ × ℕ = free_sides ms (sizes_of c.args.s.now) in
    let inside : c.loop-out.out-index < length c.outs_of_rule-outs.result.now = omega arith in
    let there : out.matrix < length ms = at_matrix ms c.outs_of_rule-outs.result.now c.loop-out.out-index out inside c.out-item.is (there_here _ _ _ _ c.outs_of_rule-outs.ensures c.matrices_of-matrices.ensures run.there) in
    let here : ◌≡◌ {A = ℕ × ℕ} (F out) (free_by out.view (sizes_of c.args.s.now) out c.index-matrices-out.result) = sides_here ms (sizes_of c.args.s.now) out c.index-matrices-out.result there c.index-matrices-out.is in
    let wide : c.view_sides-sides.result.width ≡ (F out).0 = c.view_sides-sides.ensures.width ∙ ap (λ (p : ℕ × ℕ). p.0) (sym here) in
    let tall : c.view_sides-sides.result.height ≡ (F out).1 = c.view_sides-sides.ensures.height ∙ ap (λ (p : ℕ × ℕ). p.1) (sym here) in
    let area : (F out).1 * (F out).0 ≡ c.view_sides-sides.result.height * c.view_sides-sides.result.width = sym (ap (λ n. n * c.view_sides-sides.result.width) tall ∙ ap (λ n. (F out).1 * n) wide) in
    let more = rest_next F c.outs_of_rule-outs.result.now c.loop-out.out-index out inside c.out-item.is in
    record {
      capped = most_next _ (c.view_sides-sides.result.height * c.view_sides-sides.result.width) _ _ _ _ _ c.saturating_mul.ensures c.saturating_add-total.ensures (omega (arith, more, area)) c.loop-out.invariant.capped;
      small = omega (arith, c.saturating_add-total.ensures);
    }

pub returns : goal.returns
returns c =
    let run = c.requires.runnable _ _ c.in-Some.ensures.found c.in-Some-rule_at.ensures.found in
    let past : length c.outs_of_rule-outs.result.now ≤ c.loop-out.out-index = omega arith in
    of_rule (bare_prog c.args.p.now) c.args.t c.args.r _ _ _ c.in-Some.ensures.found c.in-Some-rule_at.ensures.found
    (λ x y. most_end (free_sides c.matrices_of-matrices.result.now (sizes_of c.args.s.now)) c.outs_of_rule-outs.result.now c.loop-out.out-index c.loop-out.total _ past c.loop-out.invariant.small c.loop-out.invariant.capped
    ∙ ap (min 18446744073709551615) (needed_is _ (sizes_of c.args.s.now) x y (bare_rule c.in-Some-rule_at.rule.now) _ _ run c.outs_of_rule-outs.ensures c.matrices_of-matrices.ensures))
