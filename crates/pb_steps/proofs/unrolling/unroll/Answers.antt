use Rattle.std.proofs.Common.{◌≡◌, ◌∙◌, sym, ap, subst, []}
use Rattle.std.specs.List.{AllZip}
use Rattle.pb_program.specs.Trees.{bare_prog}
use Rattle.pb_counts.specs.Handed.{after_matrices, nothing_met, seats_from, unroll}
use Rattle.pb_steps.specs.Runs.{UnrolledValue}
use Rattle.pb_steps.specs.Stands.{AreSteps, IsStep, met_of}
use Rattle.pb_steps.proofs.unrolling.unroll.Goals as goal

pub returns-clause-steps : goal.returns-clause-steps
returns-clause-steps c =
    let p = bare_prog c.args.a.now.program in
    let start : met_of c.run.inside.met ≡ nothing_met = ap (λ (u : UnrolledValue). met_of u.met) c.run.view_is ∙ c.nothing-run.ensures.met in
    let none : c.run.inside.steps.items ≡ [] = ap (λ (u : UnrolledValue). u.steps) c.run.view_is ∙ c.nothing-run.ensures.steps in
    let seats : c.in_ok-seats.seats.items ≡ seats_from nothing_met c.args.given.now = c.in_ok-seats.ensures.seats ∙ ap (λ n. seats_from n c.args.given.now) start in
    let met : met_of c.meet_matrices.new.self ≡ after_matrices nothing_met c.args.given.now = c.in_ok-seats.ensures.met ∙ ap (λ n. after_matrices n c.args.given.now) start in
    subst (AreSteps p c.args.a.now.found c.call.new.self) (λ k. (unroll p c.args.a.now.found c.args.c.now c.args.grain c.args.depth c.args.t (seats k) (met k)).steps)
    (c.in_ok-call.ensures.goes.grows.adds [] (subst (λ l. AllZip (IsStep p c.args.a.now.found c.run.inside.instances.items) l []) (sym none) tt))
