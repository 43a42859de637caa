use Rattle.std.proofs.Common.{◌≡◌, ◌∙◌, sym, ap, arith, map, None}
use Rattle.pb_linear.specs.Sizes.{sizes_of}
use Rattle.pb_model.specs.Equations.{first_trap}
use Rattle.pb_statements.specs.Outputs.{free_sides}
use Rattle.pb_statements.specs.Stored.{locals_of, outs_of, store_of}
use Rattle.pb_statements.specs.Shown.{seen_by}
use Rattle.pb_statements.specs.Working.{left_in}
use Rattle.pb_eval.proofs.RunLemmas.{finished, left_names, runs_err, runs_ok, runs_trap}
use Rattle.pb_eval.proofs.TrapLemmas.{seen_is}
use Rattle.pb_statements.proofs.ViewLemmas.{seen_numbers, small_sizes}
use Rattle.pb_eval.proofs.run.run.Goals as goal

pub returns-in-Some-clause-found : goal.returns-in-Some-clause-found
returns-in-Some-clause-found g c = runs_trap _ _ _ _ _ (c.in-Some.ensures.trap ∙ ap first_trap (seen_is g.N.NamesTurn.turn c.args.views.now))

pub invariant_of-scene : goal.invariant_of-scene
invariant_of-scene g c =
    let N = g.N.NamesTurn.turn in
    let none : None ≡ first_trap (seen_by N c.args.views.now) = sym c.in_default.is ∙ c.first_trap.ensures.trap ∙ ap first_trap (seen_is N c.args.views.now) in
    record { small = small_sizes c.args.s.now.of c.requires.sizes; small_x = c.requires.x; small_y = c.requires.y; numbers = seen_numbers N c.args.views.now none c.requires.told }

pub statements-requires : goal.statements-requires
unfolding locals_of
statements-requires g c = omega (arith, c.requires.locals, c.begin-total.ensures.locals)

pub returns-in-Ok-clause-found : goal.returns-in-Ok-clause-found
returns-in-Ok-clause-found g c =
    let N = g.N.NamesTurn.turn in
    let none : None ≡ first_trap (seen_by N c.args.views.now) = sym c.in_default.is ∙ c.first_trap.ensures.trap ∙ ap first_trap (seen_is N c.args.views.now) in
    let left = left_names N c.args.s.now c.args.x c.args.y c.args.views.now (map (free_sides c.args.matrices.now (sizes_of c.args.s.now)) c.args.outs.now) c.args.body.now c.begin-total.new.self _ c.begin-total.ensures.sides c.begin-total.ensures.store
    (c.statements.ensures.after ∙ ap (λ r. left_in r (store_of c.statements.new.scratch)) c.in-Ok.is) in
    runs_ok _ _ _ _ _ _ none left (finished _ c.begin-total.new.self c.statements.new.scratch c.begin-total.result c.statements.ensures.room c.begin-total.ensures.sides c.begin-total.ensures.end)

pub returns-in-Ok-clause-locals : goal.returns-in-Ok-clause-locals
unfolding locals_of
returns-in-Ok-clause-locals g c = c.statements.ensures.room.locals ∙ c.begin-total.ensures.locals

pub returns-in-Ok-clause-numbers : goal.returns-in-Ok-clause-numbers
unfolding outs_of
returns-in-Ok-clause-numbers g c = c.statements.ensures.room.numbers ∙ c.begin-total.ensures.numbers

pub returns-in-Err-clause-found : goal.returns-in-Err-clause-found
returns-in-Err-clause-found g c =
    let N = g.N.NamesTurn.turn in
    let none : None ≡ first_trap (seen_by N c.args.views.now) = sym c.in_default.is ∙ c.first_trap.ensures.trap ∙ ap first_trap (seen_is N c.args.views.now) in
    let left = left_names N c.args.s.now c.args.x c.args.y c.args.views.now (map (free_sides c.args.matrices.now (sizes_of c.args.s.now)) c.args.outs.now) c.args.body.now c.begin-total.new.self _ c.begin-total.ensures.sides c.begin-total.ensures.store
    (c.statements.ensures.after ∙ ap (λ r. left_in r (store_of c.statements.new.scratch)) c.in-Err.is) in
    runs_err _ _ _ _ _ none left

pub returns-in-Err-clause-locals : goal.returns-in-Err-clause-locals
unfolding locals_of
returns-in-Err-clause-locals g c = c.statements.ensures.room.locals ∙ c.begin-total.ensures.locals

pub returns-in-Err-clause-numbers : goal.returns-in-Err-clause-numbers
unfolding outs_of
returns-in-Err-clause-numbers g c = c.statements.ensures.room.numbers ∙ c.begin-total.ensures.numbers
