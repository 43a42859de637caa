-- The room that statements and outputs need.
use Rattle.std.proofs.Common.{◌≡◌, ◌∙◌, refl, sym, ap, subst, ℕ, zero, suc, max, min, ◌+◌, ◌-◌, ◌^◌, ◌<◌, ◌≤◌, List, [], ◌∷◌, length, drop, get_or, map, Some, None, drop-cons, add-one, arith, rules}
use Rattle.std.specs.Global.{Vec}
use Rattle.std.specs.List.{All}
use Rattle.pb_program.specs.declared.view.Read.{Read}
use Rattle.pb_program.specs.Trees.{ProgRule}
use Rattle.pb_program.specs.declared.expression.Expr.{Expr}
use Rattle.pb_program.specs.declared.meaning.Called.{Called}
use Rattle.pb_program.specs.declared.meaning.Named.{Named}
use Rattle.pb_program.specs.declared.statement.Stmt.{Stmt, AssignCell, Call, If, LetMatrix, the_lemmas}
use Rattle.pb_program.specs.Forms.{DeclValue, LocalFormValue}
use Rattle.pb_program.specs.Stmts.{bare_stmt, stmts}
use Rattle.pb_eval.specs.CanRun.{at_variables, IsRunnable, outs_needed}
use Rattle.pb_statements.specs.Outputs.{free_sides, numbers_in}
use Rattle.pb_eval.proofs.CutLemmas.{all_free, outs_free}
use Rattle.pb_statements.specs.Rooms.{locals_among, locals_in}
use Rattle.pb_statements.specs.Working.{room_in, rooms_in}
use Rattle.pb_statements.proofs.StmtLemmas.{else_seen, if_seen}

pub matrix_room : (at : ℕ) (n : Named) (dims : Vec LocalFormValue) → room_in (LetMatrix at n dims) ≡ 0
unfolding room_in
matrix_room at n dims = search (rules, the_lemmas)

pub call_room : (ns : Vec Named) (c : Called) (xs : Vec Expr) → room_in (Call ns c xs) ≡ 0
unfolding room_in
call_room ns c xs = search (rules, the_lemmas)

pub cell_room : (n : Named) (xs : Vec Expr) (x : Expr) → room_in (AssignCell n xs x) ≡ 0
unfolding room_in
cell_room n xs x = search (rules, the_lemmas)

pub if_room : (at : ℕ) (test : Expr) (body : Vec Stmt) → room_in (If at test body None) ≡ rooms_in body.items
unfolding room_in rooms_in
if_room at test body = ap locals_in (if_seen at test body)

pub if_else_room : (at : ℕ) (test : Expr) (body otherwise : Vec Stmt) → room_in (If at test body (Some otherwise)) ≡ max (rooms_in body.items) (rooms_in otherwise.items)
unfolding room_in rooms_in
if_else_room at test body otherwise = ap locals_in (else_seen at test body otherwise)

step : (ss : List Stmt) (i : ℕ) (s : Stmt) → i < length ss → s ≡ get_or ss i s → rooms_in (drop i ss) ≡ max (room_in s) (rooms_in (drop (i + 1) ss))
unfolding room_in rooms_in
step ss i s below is = rw (add-one) (ap (λ l. locals_among (stmts (map bare_stmt l))) (drop-cons ss i s below ∙ ap (λ z. z ∷ drop (suc i) ss) (sym is)))

pub rooms_next : (ss : List Stmt) (i : ℕ) (s : Stmt) (found r all : ℕ) → i < length ss → s ≡ get_or ss i s → r ≡ room_in s → max found (rooms_in (drop i ss)) ≡ all → max (max found r) (rooms_in (drop (i + 1) ss)) ≡ all
rooms_next ss i s found r all below is e h = omega (arith, step ss i s below is, e, h)

pub rooms_end : (ss : List Stmt) (i : ℕ) → length ss ≤ i → rooms_in (drop i ss) ≡ 0
unfolding rooms_in
rooms_end ss i past = ap (λ l. locals_among (stmts (map bare_stmt l))) (none ss i past)
  where
    none : (l : List Stmt) (i : ℕ) → length l ≤ i → drop i l ≡ []
    none [] zero past = refl
    none [] (suc i) past = refl
    none (n ∷ l) zero past = absurd (omega arith)
    none (n ∷ l) (suc i) past = none l i (omega arith)

-- ---- outputs
pub there_here : (outs these : List Read) (ms matrices : List DeclValue) → outs ≡ these → ms ≡ matrices → All (λ o. o.matrix < length matrices) these → All (λ o. o.matrix < length ms) outs
there_here outs these ms matrices eo em h = subst (λ (l : List Read). All (λ o. o.matrix < length ms) l) (sym eo) (subst (λ (m : List DeclValue). All (λ o. o.matrix < length m) these) (sym em) h)

pub needed_is : (matrices : List DeclValue) (sizes : List ℕ) (x y : ℕ) (r : ProgRule) (outs : List Read) (ms : List DeclValue) → IsRunnable matrices r → outs ≡ r.outs → ms ≡ matrices → numbers_in (map (free_sides ms sizes) outs) ≡ outs_needed matrices sizes (at_variables x y) r
needed_is matrices sizes x y r outs ms run eo em =
    ap (λ m. numbers_in (map (free_sides m sizes) outs)) em ∙ ap (λ l. numbers_in (map (free_sides matrices sizes) l)) eo ∙ ap numbers_in (sym (all_free matrices sizes (at_variables x y) r.outs (outs_free r.kind r.outs run.kind run.fits) run.there))

pub most_next : (total area more sum n rest whole : ℕ) → more ≡ min area (2 ^ 64 - 1) → sum ≡ min (total + more) (2 ^ 64 - 1) → n ≡ area + rest → min (2 ^ 64 - 1) (total + n) ≡ whole → min (2 ^ 64 - 1) (sum + rest) ≡ whole
most_next total area more sum n rest whole em es en h = omega (arith, em, es, en, h)

pub most_end : (F : Read → ℕ × ℕ) (outs : List Read) (i total whole : ℕ) → length outs ≤ i → total < 2 ^ 64 → min (2 ^ 64 - 1) (total + numbers_in (map F (drop i outs))) ≡ min (2 ^ 64 - 1) whole → total ≡ min (2 ^ 64 - 1) whole
most_end F outs i total whole past fits h = omega (arith, fits, h, ap (λ l. numbers_in (map F l)) (none outs i past))
  where
    none : (l : List Read) (i : ℕ) → length l ≤ i → drop i l ≡ []
    none [] zero past = refl
    none [] (suc i) past = refl
    none (n ∷ l) zero past = absurd (omega arith)
    none (n ∷ l) (suc i) past = none l i (omega arith)
