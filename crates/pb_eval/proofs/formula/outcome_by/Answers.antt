use Rattle.std.proofs.Common.{◌≡◌, ◌∙◌, sym, ap, None, rules, to_z, of_z, w64}
use Rattle.pb_values.specs.declared.outcome.Outcome.TheVariants.{Value, Trapped}
use Rattle.pb_model.specs.Equations.{first_trap}
use Rattle.pb_statements.specs.Shown.{seen_by}
use Rattle.pb_eval.proofs.FormulaLemmas.{formula_gives, made_fault, made_trap, made_value, trap_at, value_is}
use Rattle.pb_eval.proofs.TrapLemmas.{seen_is}
use Rattle.pb_statements.proofs.ViewLemmas.{seen_numbers, small_sizes}
use Rattle.pb_eval.proofs.formula.outcome_by.Goals as goal

pub returns-in-Some-clause-outcome : goal.returns-in-Some-clause-outcome
returns-in-Some-clause-outcome g c =
    λ matrices rule run cell f reads.
    made_trap g.N.NamesTurn.turn c.args.s.now c.args.x c.args.y c.args.t c.args.r c.args.views.now c.args.e.now _ _ _ (c.in-Some.ensures.trap ∙ ap first_trap (seen_is g.N.NamesTurn.turn c.args.views.now))
    ∙ formula_gives g.N.NamesTurn.turn c.args.s.now c.args.x c.args.y c.args.t c.args.r c.args.views.now c.args.e.now matrices rule run cell f reads

pub invariant_of-scene : goal.invariant_of-scene
invariant_of-scene g c =
    let N = g.N.NamesTurn.turn in
    let none : None ≡ first_trap (seen_by N c.args.views.now) = sym c.in_default.is ∙ c.first_trap.ensures.trap ∙ ap first_trap (seen_is N c.args.views.now) in
    record { small = small_sizes c.args.s.now.of c.requires.sizes; small_x = c.requires.x; small_y = c.requires.y; numbers = seen_numbers N c.args.views.now none c.requires.told }

pub returns-in-Ok-clause-outcome : goal.returns-in-Ok-clause-outcome
returns-in-Ok-clause-outcome g c =
    let N = g.N.NamesTurn.turn in
    let none : None ≡ first_trap (seen_by N c.args.views.now) = sym c.in_default.is ∙ c.first_trap.ensures.trap ∙ ap first_trap (seen_is N c.args.views.now) in
    let same : to_z w64 (of_z w64 c.in-Ok.n) ≡ c.in-Ok.n = search rules in
    λ matrices rule run cell f reads.
    ap (λ n. Value n) same ∙ made_value N c.args.s.now c.args.x c.args.y c.args.t c.args.r c.args.views.now c.args.e.now _ _ _ none
    (sym (value_is N c.args.s.now c.args.x c.args.y c.args.t c.args.r c.args.views.now c.args.e.now c.args.scratch.now c.requires.blank) ∙ sym c.formula_value.ensures.value ∙ c.in-Ok.is)
    ∙ formula_gives N c.args.s.now c.args.x c.args.y c.args.t c.args.r c.args.views.now c.args.e.now matrices rule run cell f reads

pub returns-in-Err-clause-outcome : goal.returns-in-Err-clause-outcome
returns-in-Err-clause-outcome g c =
    let N = g.N.NamesTurn.turn in
    let none : None ≡ first_trap (seen_by N c.args.views.now) = sym c.in_default.is ∙ c.first_trap.ensures.trap ∙ ap first_trap (seen_is N c.args.views.now) in
    λ matrices rule run cell f reads.
    ap (λ k. Trapped (trap_at c.args.x c.args.y c.args.t c.args.r k)) c.kind.ensures
    ∙ made_fault N c.args.s.now c.args.x c.args.y c.args.t c.args.r c.args.views.now c.args.e.now _ _ _ none
    (sym (value_is N c.args.s.now c.args.x c.args.y c.args.t c.args.r c.args.views.now c.args.e.now c.args.scratch.now c.requires.blank) ∙ sym c.formula_value.ensures.value ∙ c.in-Err.is)
    ∙ formula_gives N c.args.s.now c.args.x c.args.y c.args.t c.args.r c.args.views.now c.args.e.now matrices rule run cell f reads
