use Rattle.std.proofs.Common.{◌∙◌, ap, map, Ok, Err, arith}
use Rattle.pb_linear.specs.Sizes.{sizes_of}
use Rattle.pb_program.specs.Trees.{bare_rule}
use Rattle.pb_model.specs.Equations.{trap_of}
use Rattle.pb_eval.specs.CanRun.{at_variables}
use Rattle.pb_statements.specs.Outputs.{free_sides}
use Rattle.pb_eval.specs.declared.run.Fault.TheVariants.{Body, Told}
use Rattle.pb_program.specs.Stmts.{stmts}
use Rattle.pb_statements.specs.Rooms.{locals_among}
use Rattle.pb_statements.specs.Working.{rooms_in}
use Rattle.pb_eval.proofs.GiveLemmas.{given_by, gives_body, gives_ok, gives_told, room_here, runs_here}
use Rattle.pb_eval.proofs.HeldLemmas.{told_views}
use Rattle.pb_eval.proofs.body.run_rule.Goals as goal

pub run-requires-clause-told : goal.run-requires-clause-told
run-requires-clause-told g c = told_views _ _ c.requires.reads.small c.requires.reads.told

pub run-requires-clause-locals : goal.run-requires-clause-locals
unfolding rooms_in
run-requires-clause-locals g c = omega (arith, ap (λ l. locals_among (stmts l)) c.body_of_rule-body.ensures, c.requires.locals)

pub run-requires-clause-numbers : goal.run-requires-clause-numbers
run-requires-clause-numbers g c = room_here g.N.NamesTurn.turn _ c.args.s.now c.args.x c.args.y c.args.t c.args.r _ c.args.views.now c.requires.runnable c.requires.reads _ _ _ c.outs_of_rule-outs.ensures c.matrices_of-matrices.ensures c.requires.numbers

pub returns-in-Ok-clause-found : goal.returns-in-Ok-clause-found
returns-in-Ok-clause-found g c =
    let sides = map (free_sides c.args.transform.now.matrices (sizes_of c.args.s.now)) (bare_rule c.args.rule.now).outs in
    let trap = trap_of c.args.transform.now.matrices (sizes_of c.args.s.now) (at_variables c.args.x c.args.y) c.args.t c.args.r (bare_rule c.args.rule.now) in
    let here = runs_here g.N.NamesTurn.turn c.args.transform.now.matrices c.args.s.now c.args.x c.args.y c.args.t c.args.r (bare_rule c.args.rule.now) c.args.views.now c.requires.runnable c.requires.reads _ _ _ c.run.result (Ok c.in-Ok.n) c.run.new.scratch c.outs_of_rule-outs.ensures c.body_of_rule-body.ensures c.matrices_of-matrices.ensures c.in-Ok.is c.run.ensures.found in
    given_by g.N.NamesTurn.turn c.args.transform.now.matrices c.args.s.now c.args.x c.args.y c.args.t c.args.r (bare_rule c.args.rule.now) c.args.views.now c.requires.runnable c.requires.reads _ _ (gives_ok sides trap _ _ _ _ here)

pub returns-in-Err-Told-clause-found : goal.returns-in-Err-Told-clause-found
returns-in-Err-Told-clause-found g c =
    let sides = map (free_sides c.args.transform.now.matrices (sizes_of c.args.s.now)) (bare_rule c.args.rule.now).outs in
    let trap = trap_of c.args.transform.now.matrices (sizes_of c.args.s.now) (at_variables c.args.x c.args.y) c.args.t c.args.r (bare_rule c.args.rule.now) in
    let here = runs_here g.N.NamesTurn.turn c.args.transform.now.matrices c.args.s.now c.args.x c.args.y c.args.t c.args.r (bare_rule c.args.rule.now) c.args.views.now c.requires.runnable c.requires.reads _ _ _ c.run.result (Err (Told c.in-Err-Told.trap)) c.run.new.scratch c.outs_of_rule-outs.ensures c.body_of_rule-body.ensures c.matrices_of-matrices.ensures (c.in-Err-Told.is ∙ ap (λ z. Err z) c.in-Err-Told.field-0-is) c.run.ensures.found in
    given_by g.N.NamesTurn.turn c.args.transform.now.matrices c.args.s.now c.args.x c.args.y c.args.t c.args.r (bare_rule c.args.rule.now) c.args.views.now c.requires.runnable c.requires.reads _ _ (gives_told sides trap _ _ _ _ here)

pub returns-in-Err-Body-clause-found : goal.returns-in-Err-Body-clause-found
returns-in-Err-Body-clause-found g c =
    let sides = map (free_sides c.args.transform.now.matrices (sizes_of c.args.s.now)) (bare_rule c.args.rule.now).outs in
    let trap = trap_of c.args.transform.now.matrices (sizes_of c.args.s.now) (at_variables c.args.x c.args.y) c.args.t c.args.r (bare_rule c.args.rule.now) in
    let here = runs_here g.N.NamesTurn.turn c.args.transform.now.matrices c.args.s.now c.args.x c.args.y c.args.t c.args.r (bare_rule c.args.rule.now) c.args.views.now c.requires.runnable c.requires.reads _ _ _ c.run.result (Err (Body c.in-Err-Body.kind)) c.run.new.scratch c.outs_of_rule-outs.ensures c.body_of_rule-body.ensures c.matrices_of-matrices.ensures (c.in-Err-Body.is ∙ ap (λ z. Err z) c.in-Err-Body.field-0-is) c.run.ensures.found in
    given_by g.N.NamesTurn.turn c.args.transform.now.matrices c.args.s.now c.args.x c.args.y c.args.t c.args.r (bare_rule c.args.rule.now) c.args.views.now c.requires.runnable c.requires.reads _ _ (gives_body sides trap _ _ _ _ _ here (λ i. record { kind = c.in-Err-Body.kind; transform = c.args.t; rule = c.args.r; x = c.trap_place-place.ensures.x i; y = c.trap_place-place.ensures.y i }))
