use Rattle.std.proofs.Common.{◌≡◌, ◌<◌, ◌≤◌, ◌∙◌, sym, ap, Err, rules, arith, length, not, to_z, of_z, w64}
use Rattle.pb_program.specs.declared.statement.Stmt.{If, Stmt, the_lemmas}
use Rattle.pb_model.specs.Bodies.{is_zero}
use Rattle.std.proofs.lemmas.List.{with_items_is}
use Rattle.std.specs.Vec.{vec_len}
use Rattle.pb_statements.specs.Codes.{steps_of}
use Rattle.pb_statements.specs.Stored.{bound, store_of, stored}
use Rattle.pb_statements.specs.Working.{assign_cell_in, left_in, repeated, room_in, rooms_in, stmt_in, stmts_in, turn_in}
use Rattle.pb_statements.specs.Rooms.{local_room}
use Rattle.pb_statements.specs.Turns.{all_turns}
use Rattle.pb_statements.proofs.MachineLemmas.{repeated_by}
use Rattle.pb_statements.proofs.StmtLemmas.{assign_room, assigned_in, bound_same, call_none, cell_assigned, else_in, else_room, for_err, for_ok, for_room, if_err, if_no, if_yes, let_in, let_room, matrix_in, repeat_end, repeat_err, repeat_ok, room_at, same_trans, stmts_end, stmts_err, stmts_ok, then_room, turn_err, turn_ok}
use Rattle.pb_statements.proofs.scene.Scene.+statement.Goals as goal

pub statement-assign-requires : goal.statement-assign-requires
statement-assign-requires g t c = let a = c.in-Let in omega (arith, ap room_in a.is, let_room a.at a.name a.value)

pub statement-assign-requires-in-Assign : goal.statement-assign-requires-in-Assign
statement-assign-requires-in-Assign g t c = let a = c.in-Assign in omega (arith, ap room_in a.is, assign_room a.target a.value)

pub statement-returns-in-Let-clause-after : goal.statement-returns-in-Let-clause-after
statement-returns-in-Let-clause-after g t c = let a = c.in-Let in ap (λ (s : Stmt). stmt_in (bound c.args.self.now c.args.scratch.now) s (store_of c.args.scratch.now)) a.is ∙ let_in _ _ a.at a.name a.value ∙ c.assign.ensures.after

pub statement-returns-in-LetMatrix-clause-after : goal.statement-returns-in-LetMatrix-clause-after
statement-returns-in-LetMatrix-clause-after g t c = let a = c.in-LetMatrix in ap (λ (s : Stmt). stmt_in (bound c.args.self.now c.args.scratch.now) s (store_of c.args.scratch.now)) a.is ∙ matrix_in _ _ a.at a.name a.dims

pub statement-returns-in-Call-clause-after : goal.statement-returns-in-Call-clause-after
statement-returns-in-Call-clause-after g t c = let a = c.in-Call in ap (λ (s : Stmt). stmt_in (bound c.args.self.now c.args.scratch.now) s (store_of c.args.scratch.now)) a.is ∙ call_none _ _ a.targets a.called a.arguments

pub statement-returns-in-Assign-clause-after : goal.statement-returns-in-Assign-clause-after
statement-returns-in-Assign-clause-after g t c = let a = c.in-Assign in ap (λ (s : Stmt). stmt_in (bound c.args.self.now c.args.scratch.now) s (store_of c.args.scratch.now)) a.is ∙ assigned_in _ _ a.target a.value ∙ c.assign-in-Assign.ensures.after

pub statement-returns-in-Err-clause-after : goal.statement-returns-in-Err-clause-after
statement-returns-in-Err-clause-after g t c =
    let a = c.in-If in
    ap (λ (s : Stmt). stmt_in (bound c.args.self.now c.args.scratch.now) s (store_of c.args.scratch.now)) a.is ∙ if_err _ _ a.at a.test a.«then» a.otherwise c.in-Err.kind (sym c.value.ensures.value ∙ c.in-Err.is) ∙ ap (λ k. Err k) (sym c.kind.ensures)

pub statement-returns-in-AssignCell-clause-after : goal.statement-returns-in-AssignCell-clause-after
statement-returns-in-AssignCell-clause-after g t c =
    let a = c.in-AssignCell in
    ap (λ (s : Stmt). stmt_in (bound c.args.self.now c.args.scratch.now) s (store_of c.args.scratch.now)) a.is ∙ cell_assigned _ _ a.target a.coordinates a.value ∙ ap (λ xs. assign_cell_in (bound c.args.self.now c.args.scratch.now) a.target.what xs a.value (store_of c.args.scratch.now)) (sym c.deref.ensures.value) ∙ c.assign_cell.ensures.after

pub statement-statements-requires : goal.statement-statements-requires
statement-statements-requires g t c =
    let a = c.in-If in
    let room : rooms_in c.deref-then-is_true.result.now ≤ length c.args.scratch.now.locals.items = omega (arith, ap rooms_in c.deref-then-is_true.ensures.value, then_room a.at a.test a.«then» a.otherwise, ap room_in a.is) in
    λ κs l. (search (rules, the_lemmas) depth 12, (l.0, (l.1, room)))

pub statement-statements-requires-in-Some : goal.statement-statements-requires-in-Some
statement-statements-requires-in-Some g t c =
    let a = c.in-If in
    let o = c.in-Some.otherwise in
    let here = a.is ∙ ap (If a.at a.test a.«then») c.in-Some.is in
    let room : rooms_in c.deref-in-Some.result.now ≤ length c.args.scratch.now.locals.items = omega (arith, ap rooms_in c.deref-in-Some.ensures.value, else_room a.at a.test a.«then» o, ap room_in here) in
    λ κs l. (search (rules, the_lemmas) depth 12, (l.0, (l.1, room)))

pub statement-repeat-requires : goal.statement-repeat-requires
statement-repeat-requires g t c =
    let a = c.in-For in
    let whole = for_room a.at a.name a.start a.end a.body in
    let name : local_room a.name.what ≤ length c.args.scratch.now.locals.items = omega (arith, whole, ap room_in a.is) in
    let room : rooms_in c.deref-in-Ok-turns.result.now ≤ length c.args.scratch.now.locals.items = omega (arith, ap rooms_in c.deref-in-Ok-turns.ensures.value, whole, ap room_in a.is) in
    λ κs l. (search (rules, the_lemmas) depth 12, (l.0, (l.1, (name, room))))

pub statement-returns-then-is_true-clause-after : goal.statement-returns-then-is_true-clause-after
statement-returns-then-is_true-clause-after g t c =
    let a = c.in-If in
    let same : to_z w64 (of_z w64 c.in-Ok.truth) ≡ c.in-Ok.truth = search rules in
    ap (λ (s : Stmt). stmt_in (bound c.args.self.now c.args.scratch.now) s (store_of c.args.scratch.now)) a.is ∙ if_yes _ _ a.at a.test a.«then» a.otherwise c.in-Ok.truth (sym c.value.ensures.value ∙ c.in-Ok.is) (ap (λ z. not (is_zero z)) (sym same) ∙ sym c.is_true.ensures ∙ c.if-is_true.true)
    ∙ ap (λ ss. stmts_in (bound c.args.self.now c.args.scratch.now) ss (store_of c.args.scratch.now)) (sym c.deref-then-is_true.ensures.value) ∙ c.statements.ensures.after

pub statement-returns-in-Some-clause-after : goal.statement-returns-in-Some-clause-after
statement-returns-in-Some-clause-after g t c =
    let a = c.in-If in
    let same : to_z w64 (of_z w64 c.in-Ok.truth) ≡ c.in-Ok.truth = search rules in
    ap (λ (s : Stmt). stmt_in (bound c.args.self.now c.args.scratch.now) s (store_of c.args.scratch.now)) (a.is ∙ ap (If a.at a.test a.«then») c.in-Some.is)
    ∙ else_in _ _ a.at a.test a.«then» c.in-Some.otherwise c.in-Ok.truth (sym c.value.ensures.value ∙ c.in-Ok.is) (ap (λ z. not (is_zero z)) (sym same) ∙ sym c.is_true.ensures ∙ c.if-is_true.false)
    ∙ ap (λ ss. stmts_in (bound c.args.self.now c.args.scratch.now) ss (store_of c.args.scratch.now)) (sym c.deref-in-Some.ensures.value) ∙ c.statements-in-Some.ensures.after

pub statement-returns-in-None-clause-after : goal.statement-returns-in-None-clause-after
statement-returns-in-None-clause-after g t c =
    let a = c.in-If in
    let same : to_z w64 (of_z w64 c.in-Ok.truth) ≡ c.in-Ok.truth = search rules in
    ap (λ (s : Stmt). stmt_in (bound c.args.self.now c.args.scratch.now) s (store_of c.args.scratch.now)) (a.is ∙ ap (If a.at a.test a.«then») c.in-None.is)
    ∙ if_no _ _ a.at a.test a.«then» c.in-Ok.truth (sym c.value.ensures.value ∙ c.in-Ok.is) (ap (λ z. not (is_zero z)) (sym same) ∙ sym c.is_true.ensures ∙ c.if-is_true.false)

pub statement-returns-in-Ok-turns-clause-after : goal.statement-returns-in-Ok-turns-clause-after
statement-returns-in-Ok-turns-clause-after g t c =
    let a = c.in-For in
    ap (λ (s : Stmt). stmt_in (bound c.args.self.now c.args.scratch.now) s (store_of c.args.scratch.now)) a.is ∙ for_ok _ _ a.at a.name a.start a.end a.body c.in-Ok-turns.turns (ap all_turns (sym c.in-Ok-turns.is) ∙ c.turns.ensures.count)
    ∙ ap (λ ss. repeated (bound c.args.self.now c.args.scratch.now) a.name.what ss c.in-Ok-turns.turns.low c.in-Ok-turns.turns.count (store_of c.args.scratch.now)) (sym c.deref-in-Ok-turns.ensures.value) ∙ c.repeat.ensures.after

pub statement-returns-in-Err-turns-clause-after : goal.statement-returns-in-Err-turns-clause-after
statement-returns-in-Err-turns-clause-after g t c =
    let a = c.in-For in
    ap (λ (s : Stmt). stmt_in (bound c.args.self.now c.args.scratch.now) s (store_of c.args.scratch.now)) a.is ∙ for_err _ _ a.at a.name a.start a.end a.body c.in-Err-turns.kind (ap all_turns (sym c.in-Err-turns.is) ∙ c.turns.ensures.count)

pub walk-returns-in-Err-clause-after : goal.walk-returns-in-Err-clause-after
walk-returns-in-Err-clause-after g t c =
    let same : to_z w64 (of_z w64 c.number.result) ≡ c.number.result = search rules in
    let inside : c.loop-k.k < c.args.turns.now.count = c.loop-k-test.true in
    let made = ap (λ b. turn_in b c.args.name c.args.body.now (to_z w64 (of_z w64 c.number.result)) (store_of c.loop-k.scratch)) (sym (bound_same c.args.self.now _ _ c.loop-k.invariant.room)) ∙ c.turn.ensures.after in
    sym c.loop-k.invariant.after ∙ repeat_err _ _ _ _ _ c.loop-k.k _ _ c.in-Err.kind inside (same ∙ c.number.ensures) (made ∙ ap (λ r. left_in r (store_of c.turn.new.scratch)) c.in-Err.is)

pub walk-loop-k-preserved : goal.walk-loop-k-preserved
walk-loop-k-preserved g t c =
    let same : to_z w64 (of_z w64 c.number.result) ≡ c.number.result = search rules in
    let inside : c.loop-k.k < c.args.turns.now.count = c.loop-k-test.true in
    let made = ap (λ b. turn_in b c.args.name c.args.body.now (to_z w64 (of_z w64 c.number.result)) (store_of c.loop-k.scratch)) (sym (bound_same c.args.self.now _ _ c.loop-k.invariant.room)) ∙ c.turn.ensures.after in
    record {
      after = repeat_ok _ _ _ _ _ c.loop-k.k _ _ _ inside (same ∙ c.number.ensures) (made ∙ ap (λ r. left_in r (store_of c.turn.new.scratch)) c.in-Ok.is) ∙ c.loop-k.invariant.after;
      room = same_trans _ _ _ c.loop-k.invariant.room c.turn.ensures.room;
      same_reference = c.turn.ensures.same_reference ∙ c.loop-k.invariant.same_reference;
    }

pub walk-returns-clause-after : goal.walk-returns-clause-after
walk-returns-clause-after g t c =
    let past : c.args.turns.now.count ≤ c.loop-k.k = c.loop-k-test.false in
    sym c.loop-k.invariant.after ∙ repeat_end _ _ _ _ _ c.loop-k.k _ past

pub statements-statement-requires : goal.statements-statement-requires
statements-statement-requires g t c =
    let inside : c.loop-next.next-index < length c.args.ss.now = omega arith in
    let room : room_in c.next-item.result ≤ length c.loop-next.scratch.locals.items = omega (arith, room_at c.args.ss.now c.loop-next.next-index c.next-item.result _ inside c.next-item.is c.requires, c.loop-next.invariant.room.locals) in
    λ κs l. (search (rules, the_lemmas) depth 12, (l.0, (l.1, room)))

pub statements-returns-in-Err-clause-after : goal.statements-returns-in-Err-clause-after
statements-returns-in-Err-clause-after g t c =
    let inside : c.loop-next.next-index < length c.args.ss.now = omega arith in
    let made = ap (λ b. stmt_in b c.next-item.result (store_of c.loop-next.scratch)) (sym (bound_same c.args.self.now _ _ c.loop-next.invariant.room)) ∙ c.statement.ensures.after in
    sym c.loop-next.invariant.after ∙ stmts_err _ _ _ _ _ _ inside c.next-item.is (made ∙ ap (λ r. left_in r (store_of c.statement.new.scratch)) c.in-Err.is)

pub statements-loop-next-preserved : goal.statements-loop-next-preserved
statements-loop-next-preserved g t c =
    let inside : c.loop-next.next-index < length c.args.ss.now = omega arith in
    let made = ap (λ b. stmt_in b c.next-item.result (store_of c.loop-next.scratch)) (sym (bound_same c.args.self.now _ _ c.loop-next.invariant.room)) ∙ c.statement.ensures.after in
    record {
      after = stmts_ok _ _ _ _ _ _ inside c.next-item.is (made ∙ ap (λ r. left_in r (store_of c.statement.new.scratch)) c.in-Ok.is) ∙ c.loop-next.invariant.after;
      room = same_trans _ _ _ c.loop-next.invariant.room c.statement.ensures.room;
      same_reference = c.statement.ensures.same_reference ∙ c.loop-next.invariant.same_reference;
    }

pub statements-returns-clause-after : goal.statements-returns-clause-after
statements-returns-clause-after g t c =
    let past : length c.args.ss.now ≤ c.loop-next.next-index = omega arith in
    sym c.loop-next.invariant.after ∙ stmts_end _ _ _ _ past

pub turn-returns-in-Ok-clause-after : goal.turn-returns-in-Ok-clause-after
turn-returns-in-Ok-clause-after g t c =
    let same : to_z w64 (of_z w64 c.args.number) ≡ c.args.number = search rules in
    turn_ok _ _ _ _ _ _ _ same (c.assign.ensures.after c.args.self.now ∙ ap (λ r. left_in r (store_of c.assign.new.self)) c.in-Ok.is)
    ∙ ap (λ b. stmts_in b c.args.body.now (store_of c.assign.new.self)) (sym (bound_same c.args.self.now _ _ c.assign.ensures.room)) ∙ c.statements.ensures.after

pub turn-returns-in-Err-clause-after : goal.turn-returns-in-Err-clause-after
turn-returns-in-Err-clause-after g t c =
    let same : to_z w64 (of_z w64 c.args.number) ≡ c.args.number = search rules in
    turn_err _ _ _ _ _ _ _ same (c.assign.ensures.after c.args.self.now ∙ ap (λ r. left_in r (store_of c.assign.new.self)) c.in-Err.is)

pub repeat-returns-then-not-translate-clause-after : goal.repeat-returns-then-not-translate-clause-after
unfolding bound store_of
repeat-returns-then-not-translate-clause-after g t c =
    let before = c.args.scratch.now in
    ap (λ m. repeated (bound c.args.self.now before) m c.args.body.now c.args.turns.now.low c.args.turns.now.count (store_of before)) c.in-Number.is ∙ c.walk-then-not-translate.ensures.after

pub repeat-returns-clause-after : goal.repeat-returns-clause-after
unfolding steps_of store_of
repeat-returns-clause-after g t c =
    let before = c.args.scratch.now in
    let same : vec_len before.locals ≡ length before.locals.items = search rules in
    repeated_by _ before c.in-Number.k _ _ c.len-room.result c.translate.new.code.steps.items c.deref.result.now _ _ c.deref_mut.result.now before.locals.items before.numbers.items before.spots.items _ c.in-Number.is (c.len-room.ensures ∙ same)
    (c.translate.ensures.code c.if-not-translate.false) c.deref.ensures.value c.deref_mut.ensures.value (c.repeat_code.ensures.locals _ _)
    ∙ ap (λ l. left_in c.repeat_code.result (stored l before.numbers.items before.spots.items)) (sym (with_items_is before.locals c.repeat_code.new.locals (c.repeat_code.ensures.room ∙ ap length c.deref_mut.ensures.value ∙ sym before.locals.ok.0)))
