use Rattle.std.proofs.Common.{◌≡◌, ◌∙◌, ap, subst, map}
use Rattle.std.specs.Prelude.{filter}
use Rattle.pb_linear.specs.Sizes.{sizes_of}
use Rattle.pb_program.specs.Plans.{PlanCallValue}
use Rattle.pb_program.specs.Trees.{bare_rule}
use Rattle.pb_values.specs.declared.outcome.Outcome.TheVariants.{Trapped}
use Rattle.pb_recursion.specs.Plans.{sides_of_slot, target_sides}
use Rattle.pb_counts.specs.Handed.{after_call, seat_has_cells, seats_from, target_of, targets_of, trap_step}
use Rattle.pb_steps.specs.Stands.{Appends, met_of}
use Rattle.pb_steps.proofs.failed.fail_call.Goals as goal

pub returns-clause-steps : goal.returns-clause-steps
returns-clause-steps c = λ p found instances.
    let r = bare_rule c.args.rule.now in
    let n = met_of c.args.met.now in
    let sizes = sizes_of c.args.s.now in
    let matrices = c.args.t.now.matrices in
    let named : c.deref.result.now ≡ c.args.call.now.targets = c.deref.ensures.value ∙ ap (λ (q : PlanCallValue). q.targets) c.call.view_is in
    let again : c.deref-3.result.now ≡ c.args.call.now.targets = c.deref-3.ensures.value ∙ ap (λ (q : PlanCallValue). q.targets) c.call.view_is in
    let targets : c.in_ok-targets_of.field-0.items ≡ targets_of r c.args.call.now = c.in_ok-targets_of.ensures ∙ ap (map (target_of r)) again in
    let wanted : c.deref-2.result.now ≡ target_sides matrices sizes r c.args.call.now = c.deref-2.ensures.value ∙ c.in_ok-wanted.ensures ∙ ap (map (sides_of_slot matrices sizes r)) named in
    let seats : c.deref-4.result.now ≡ seats_from (after_call n) (target_sides matrices sizes r c.args.call.now) = c.deref-4.ensures.value ∙ c.in_ok-seats.ensures.seats ∙ (λ k. seats_from (c.in_ok-number.ensures.met k) (wanted k)) in
    let filled : c.in_ok-with_cells.field-0.items ≡ filter seat_has_cells (seats_from (after_call n) (target_sides matrices sizes r c.args.call.now)) = c.in_ok-with_cells.ensures ∙ ap (filter seat_has_cells) seats in
    subst (Appends p found instances c.args.steps.now.items c.add_trap.new.steps.items)
    (λ k. trap_step (targets k) n.matrices (c.in_ok-number.ensures.number k) (Trapped c.args.trap) (filled k)) (c.in_ok-add_trap.ensures p found instances)
