-- Statements as they are held, and as definitions see them.
use Rattle.std.proofs.Common.{◌≡◌, ◌∙◌, refl, sym, ap, ℕ, zero, suc, max, ◌+◌, ◌-◌, ◌<◌, ◌≤◌, ℤ, pos, ◌+ℤ◌, List, [], ◌∷◌, length, drop, get_or, map, Option, Some, None, Ok, Err, Result, true, false, not, drop-cons, add-one, arith, rules}
use Rattle.std.specs.Prelude.{if◌then◌else◌, IfOk}
use Rattle.std.specs.Global.{Vec}
use Rattle.std.proofs.lemmas.Int.{ints}
use Rattle.pb_values.specs.declared.outcome.Kind.{Kind}
use Rattle.pb_values.specs.declared.outcome.Kind.TheVariants.{OutOfView}
use Rattle.pb_program.specs.declared.expression.Expr.{Expr}
use Rattle.pb_program.specs.declared.meaning.Meaning.{Meaning}
use Rattle.pb_program.specs.declared.meaning.Named.{Named}
use Rattle.pb_program.specs.declared.statement.Stmt.{Stmt, Assign, AssignCell, Call, For, If, Let, LetMatrix, the_lemmas}
use Rattle.pb_program.specs.Exprs.{bare}
use Rattle.pb_program.specs.Stmts.{assign, assign_cell, bare_stmt, call_stmt, stmts, if_stmt, if_else, for_stmt, let_matrix, let_number}
use Rattle.pb_program.specs.Forms.{LocalFormValue}
use Rattle.pb_program.specs.declared.meaning.Called.{Called}
use Rattle.pb_model.specs.Bodies.{Bindings, Store, after, after_all, assigned, if_ok, is_zero, place_of, put_at, turns}
use Rattle.pb_statements.specs.Rooms.{local_room, locals_in}
use Rattle.pb_statements.specs.Shown.{Around}
use Rattle.pb_statements.specs.Stored.{bound, SameRoom, sides_of}
use Rattle.pb_statements.specs.declared.scratch.Scratch.{Scratch}
use Rattle.pb_statements.proofs.ArgumentLemmas.{assign_placed}
use Rattle.pb_statements.proofs.TurnLemmas.{turns_end, turns_err, turns_ok}
use Rattle.pb_statements.specs.Turns.{all_turns, count_of}
use Rattle.pb_statements.specs.declared.turns.Turns.{Turns}
use Rattle.pb_statements.specs.Working.{assign_cell_in, assign_in, place_in, repeated, room_in, rooms_in, stmt_in, stmts_in, turn_in, turns_in, value_in}

-- ---- room
pub room_at : (ss : List Stmt) (i : ℕ) (s : Stmt) (n : ℕ) → i < length ss → s ≡ get_or ss i s → rooms_in ss ≤ n → room_in s ≤ n
unfolding room_in rooms_in
room_at [] i s n below is h = absurd (omega arith)
room_at (x ∷ ss) zero s n below is h = let e : locals_in (bare_stmt s) ≡ locals_in (bare_stmt x) = ap (λ z. locals_in (bare_stmt z)) is in omega (arith, e)
room_at (x ∷ ss) (suc i) s n below is h = room_at ss i s n (omega (arith, below)) is (omega (arith, h))

pub let_room : (at : ℕ) (n : Named) (x : Expr) → room_in (Let at n x) ≡ local_room n.what
unfolding room_in
let_room at n x = search (rules, the_lemmas)

pub assign_room : (n : Named) (x : Expr) → room_in (Assign n x) ≡ local_room n.what
unfolding room_in
assign_room n x = search (rules, the_lemmas)

pub if_seen : (at : ℕ) (test : Expr) (body : Vec Stmt) → bare_stmt (If at test body None) ≡ if_stmt at (bare test) (stmts (map bare_stmt body.items))
if_seen at test body = search (rules, the_lemmas)

pub else_seen : (at : ℕ) (test : Expr) (body otherwise : Vec Stmt) → bare_stmt (If at test body (Some otherwise)) ≡ if_else at (bare test) (stmts (map bare_stmt body.items)) (stmts (map bare_stmt otherwise.items))
else_seen at test body otherwise = search (rules, the_lemmas)

for_seen : (at : ℕ) (n : Named) (x y : Expr) (body : Vec Stmt) → bare_stmt (For at n x y body) ≡ for_stmt at n (bare x) (bare y) (stmts (map bare_stmt body.items))
for_seen at n x y body = search (rules, the_lemmas)

pub then_room : (at : ℕ) (test : Expr) (body : Vec Stmt) (o : Option (Vec Stmt)) → rooms_in body.items ≤ room_in (If at test body o)
unfolding room_in rooms_in
then_room at test body None = let e = ap locals_in (if_seen at test body) in omega (arith, e)
then_room at test body (Some otherwise) = let e = ap locals_in (else_seen at test body otherwise) in omega (arith, e)

pub else_room : (at : ℕ) (test : Expr) (body otherwise : Vec Stmt) → rooms_in otherwise.items ≤ room_in (If at test body (Some otherwise))
unfolding room_in rooms_in
else_room at test body otherwise = let e = ap locals_in (else_seen at test body otherwise) in omega (arith, e)

pub for_room : (at : ℕ) (n : Named) (x y : Expr) (body : Vec Stmt) → room_in (For at n x y body) ≡ max (local_room n.what) (rooms_in body.items)
unfolding room_in rooms_in
for_room at n x y body = ap locals_in (for_seen at n x y body)

-- ---- the same names
pub bound_same : (a : Around) (s t : Scratch) → SameRoom s t → bound a t ≡ bound a s
unfolding bound
bound_same a s t h = ap (λ l. record { sizes = a.sizes; x = a.x; y = a.y; reads = a.reads; outs = map sides_of l }) h.spots

pub same_trans : (s t u : Scratch) → SameRoom s t → SameRoom t u → SameRoom s u
same_trans s t u h k = record { locals = k.locals ∙ h.locals; numbers = k.numbers ∙ h.numbers; spots = k.spots ∙ h.spots }

pub same_here : (s : Scratch) → SameRoom s s
same_here s = record { locals = refl; numbers = refl; spots = refl }

module _ (b : Bindings) (st : Store) where
  pub let_in : (at : ℕ) (n : Named) (x : Expr) → stmt_in b (Let at n x) st ≡ assign_in b n.what st (value_in b st x)
  unfolding stmt_in assign_in value_in after
  let_in at n x = ap (λ s. after b s st) seen
    where
      seen : bare_stmt (Let at n x) ≡ let_number at n (bare x)
      seen = search (rules, the_lemmas)

  pub assigned_in : (n : Named) (x : Expr) → stmt_in b (Assign n x) st ≡ assign_in b n.what st (value_in b st x)
  unfolding stmt_in assign_in value_in after
  assigned_in n x = ap (λ s. after b s st) seen
    where
      seen : bare_stmt (Assign n x) ≡ assign n (bare x)
      seen = search (rules, the_lemmas)

  pub matrix_in : (at : ℕ) (n : Named) (dims : Vec LocalFormValue) → stmt_in b (LetMatrix at n dims) st ≡ Err OutOfView
  unfolding stmt_in after
  matrix_in at n dims = ap (λ s. after b s st) seen
    where
      seen : bare_stmt (LetMatrix at n dims) ≡ let_matrix at n dims.items
      seen = search (rules, the_lemmas)

  pub call_none : (ns : Vec Named) (c : Called) (xs : Vec Expr) → stmt_in b (Call ns c xs) st ≡ Err OutOfView
  unfolding stmt_in after
  call_none ns c xs = ap (λ s. after b s st) seen
    where
      seen : bare_stmt (Call ns c xs) ≡ call_stmt ns.items c (map bare xs.items)
      seen = search (rules, the_lemmas)

  pub cell_assigned : (n : Named) (xs : Vec Expr) (x : Expr) → stmt_in b (AssignCell n xs x) st ≡ assign_cell_in b n.what xs.items x st
  unfolding stmt_in assign_cell_in after
  cell_assigned n xs x = ap (λ s. after b s st) seen
    where
      seen : bare_stmt (AssignCell n xs x) ≡ assign_cell n (map bare xs.items) (bare x)
      seen = search (rules, the_lemmas)

  pub if_err : (at : ℕ) (test : Expr) (body : Vec Stmt) (o : Option (Vec Stmt)) (k : Kind) → value_in b st test ≡ Err k → stmt_in b (If at test body o) st ≡ Err k
  unfolding stmt_in value_in after
  if_err at test body None k e = ap (λ s. after b s st) (if_seen at test body) ∙ ap (λ r. if_ok (if_ok r (λ v. Ok (not (is_zero v)))) (λ t. if t then after_all b (stmts (map bare_stmt body.items)) st else Ok st)) e
  if_err at test body (Some otherwise) k e =
      ap (λ s. after b s st) (else_seen at test body otherwise)
      ∙ ap (λ r. if_ok (if_ok r (λ v. Ok (not (is_zero v)))) (λ t. if t then after_all b (stmts (map bare_stmt body.items)) st else after_all b (stmts (map bare_stmt otherwise.items)) st)) e

  pub if_yes : (at : ℕ) (test : Expr) (body : Vec Stmt) (o : Option (Vec Stmt)) (v : ℤ) → value_in b st test ≡ Ok v → not (is_zero v) ≡ true → stmt_in b (If at test body o) st ≡ stmts_in b body.items st
  unfolding stmt_in stmts_in value_in after
  if_yes at test body None v e t =
      ap (λ s. after b s st) (if_seen at test body) ∙ ap (λ r. if_ok (if_ok r (λ v. Ok (not (is_zero v)))) (λ t. if t then after_all b (stmts (map bare_stmt body.items)) st else Ok st)) e
      ∙ ap (λ t. if t then after_all b (stmts (map bare_stmt body.items)) st else Ok st) t
  if_yes at test body (Some otherwise) v e t =
      ap (λ s. after b s st) (else_seen at test body otherwise)
      ∙ ap (λ r. if_ok (if_ok r (λ v. Ok (not (is_zero v)))) (λ t. if t then after_all b (stmts (map bare_stmt body.items)) st else after_all b (stmts (map bare_stmt otherwise.items)) st)) e
      ∙ ap (λ t. if t then after_all b (stmts (map bare_stmt body.items)) st else after_all b (stmts (map bare_stmt otherwise.items)) st) t

  pub if_no : (at : ℕ) (test : Expr) (body : Vec Stmt) (v : ℤ) → value_in b st test ≡ Ok v → not (is_zero v) ≡ false → stmt_in b (If at test body None) st ≡ Ok st
  unfolding stmt_in value_in after
  if_no at test body v e t =
      ap (λ s. after b s st) (if_seen at test body) ∙ ap (λ r. if_ok (if_ok r (λ v. Ok (not (is_zero v)))) (λ t. if t then after_all b (stmts (map bare_stmt body.items)) st else Ok st)) e
      ∙ ap (λ t. if t then after_all b (stmts (map bare_stmt body.items)) st else Ok st) t

  pub else_in : (at : ℕ) (test : Expr) (body otherwise : Vec Stmt) (v : ℤ) → value_in b st test ≡ Ok v → not (is_zero v) ≡ false → stmt_in b (If at test body (Some otherwise)) st ≡ stmts_in b otherwise.items st
  unfolding stmt_in stmts_in value_in after
  else_in at test body otherwise v e t =
      ap (λ s. after b s st) (else_seen at test body otherwise)
      ∙ ap (λ r. if_ok (if_ok r (λ v. Ok (not (is_zero v)))) (λ t. if t then after_all b (stmts (map bare_stmt body.items)) st else after_all b (stmts (map bare_stmt otherwise.items)) st)) e
      ∙ ap (λ t. if t then after_all b (stmts (map bare_stmt body.items)) st else after_all b (stmts (map bare_stmt otherwise.items)) st) t

  looped : (m : Meaning) (ss : List Stmt) (r s : Result ℤ Kind) → if_ok r (λ low. if_ok s (λ high. if_ok (turns low high) (λ k. repeated b m ss low k st)))
      ≡ if_ok {A = ℤ × ℕ} {B = Store} (if_ok {A = ℤ} {B = ℤ × ℕ} r (λ low. if_ok {A = ℤ} {B = ℤ × ℕ} s (λ high. if_ok {A = ℕ} {B = ℤ × ℕ} (turns low high) (λ k. Ok (low, k))))) (λ t. repeated b m ss t.0 t.1 st)
  looped m ss (Ok low) (Ok high) = by (turns low high)
    where
      by : (q : Result ℕ Kind) → if_ok q (λ k. repeated b m ss low k st) ≡ if_ok {A = ℤ × ℕ} {B = Store} (if_ok {A = ℕ} {B = ℤ × ℕ} q (λ k. Ok (low, k))) (λ t. repeated b m ss t.0 t.1 st)
      by (Ok k) = refl
      by (Err k) = refl
  looped m ss (Ok low) (Err k) = refl
  looped m ss (Err k) s = refl

  pub for_in : (at : ℕ) (n : Named) (x y : Expr) (body : Vec Stmt) → stmt_in b (For at n x y body) st ≡ if_ok (turns_in b st x y) (λ t. repeated b n.what body.items t.0 t.1 st)
  unfolding stmt_in stmts_in turns_in value_in turn_in repeated after
  for_in at n x y body = ap (λ s. after b s st) (for_seen at n x y body) ∙ looped n.what body.items (value_in b st x) (value_in b st y)

  pub for_ok : (at : ℕ) (n : Named) (x y : Expr) (body : Vec Stmt) (t : Turns) → all_turns (Ok t) ≡ turns_in b st x y → stmt_in b (For at n x y body) st ≡ repeated b n.what body.items t.low t.count st
  for_ok at n x y body t e = for_in at n x y body ∙ ap (λ r. if_ok r (λ t. repeated b n.what body.items t.0 t.1 st)) (sym e)

  pub for_err : (at : ℕ) (n : Named) (x y : Expr) (body : Vec Stmt) (k : Kind) → ◌≡◌ {A = Result (ℤ × ℕ) Kind} (Err k) (turns_in b st x y) → stmt_in b (For at n x y body) st ≡ Err k
  for_err at n x y body k e = for_in at n x y body ∙ ap (λ r. if_ok r (λ t. repeated b n.what body.items t.0 t.1 st)) (sym e)

  -- ---- the numbers of a loop
  pub turns_low : (x y : Expr) (k : Kind) → value_in b st x ≡ Err k → ◌≡◌ {A = Result (ℤ × ℕ) Kind} (Err k) (turns_in b st x y)
  unfolding turns_in
  turns_low x y k e = ap (λ r. if_ok {A = ℤ} {B = ℤ × ℕ} r (λ low. if_ok {A = ℤ} {B = ℤ × ℕ} (value_in b st y) (λ high. if_ok {A = ℕ} {B = ℤ × ℕ} (turns low high) (λ k. Ok (low, k))))) (sym e)

  pub turns_high : (x y : Expr) (low : ℤ) (k : Kind) → value_in b st x ≡ Ok low → value_in b st y ≡ Err k → ◌≡◌ {A = Result (ℤ × ℕ) Kind} (Err k) (turns_in b st x y)
  unfolding turns_in
  turns_high x y low k d e =
      ap (λ r. if_ok {A = ℤ} {B = ℤ × ℕ} r (λ high. if_ok {A = ℕ} {B = ℤ × ℕ} (turns low high) (λ k. Ok (low, k)))) (sym e)
      ∙ ap (λ r. if_ok {A = ℤ} {B = ℤ × ℕ} r (λ low. if_ok {A = ℤ} {B = ℤ × ℕ} (value_in b st y) (λ high. if_ok {A = ℕ} {B = ℤ × ℕ} (turns low high) (λ k. Ok (low, k))))) (sym d)

  pub turns_are : (x y : Expr) (low high l h : ℤ) (r : Result Turns Kind) → value_in b st x ≡ Ok low → value_in b st y ≡ Ok high → l ≡ low → h ≡ high → count_of r ≡ turns l h → IfOk r (λ t. t.low ≡ l) → all_turns r ≡ turns_in b st x y
  unfolding turns_in
  turns_are x y low high l h r d e p q count is =
      both r is ∙ ap (λ m. if_ok {A = ℕ} {B = ℤ × ℕ} m (λ k. Ok (low, k))) (count ∙ ap (λ z. turns z h) p ∙ ap (turns low) q)
      ∙ ap (λ r. if_ok {A = ℤ} {B = ℤ × ℕ} r (λ high. if_ok {A = ℕ} {B = ℤ × ℕ} (turns low high) (λ k. Ok (low, k)))) (sym e)
      ∙ ap (λ r. if_ok {A = ℤ} {B = ℤ × ℕ} r (λ low. if_ok {A = ℤ} {B = ℤ × ℕ} (value_in b st y) (λ high. if_ok {A = ℕ} {B = ℤ × ℕ} (turns low high) (λ k. Ok (low, k))))) (sym d)
    where
      both : (r : Result Turns Kind) → IfOk r (λ t. t.low ≡ l) → all_turns r ≡ if_ok {A = ℕ} {B = ℤ × ℕ} (count_of r) (λ k. Ok (low, k))
      both (Ok t) is = λ i. Ok ((is ∙ p) i, t.count)
      both (Err k) is = refl

module _ (b : Bindings) where
  pub assign_ok : (m : Meaning) (st : Store) (r : Result ℤ Kind) (n v : ℤ) → r ≡ Ok n → v ≡ n → assign_in b m st r ≡ assigned st (place_of b m) v
  unfolding assign_in
  assign_ok m st r n v e same = ap (λ s. if_ok s (assigned st (place_of b m))) e ∙ ap (assigned st (place_of b m)) (sym same)

  pub assign_err : (m : Meaning) (st : Store) (r : Result ℤ Kind) (k : Kind) → r ≡ Err k → assign_in b m st r ≡ Err k
  unfolding assign_in
  assign_err m st r k e = ap (λ s. if_ok s (assigned st (place_of b m))) e

  pub turn_ok : (m : Meaning) (ss : List Stmt) (i v : ℤ) (st next : Store) → v ≡ i → assigned st (place_of b m) v ≡ Ok next → turn_in b m ss i st ≡ stmts_in b ss next
  unfolding turn_in
  turn_ok m ss i v st next same e = ap (λ z. if_ok (assigned st (place_of b m) z) (stmts_in b ss)) (sym same) ∙ ap (λ r. if_ok r (stmts_in b ss)) e

  pub turn_err : (m : Meaning) (ss : List Stmt) (i v : ℤ) (st : Store) (k : Kind) → v ≡ i → assigned st (place_of b m) v ≡ Err k → turn_in b m ss i st ≡ Err k
  unfolding turn_in
  turn_err m ss i v st k same e = ap (λ z. if_ok (assigned st (place_of b m) z) (stmts_in b ss)) (sym same) ∙ ap (λ r. if_ok r (stmts_in b ss)) e

  -- ---- an assignment to a cell
  pub placed_err : (m : Meaning) (xs : List Expr) (x : Expr) (st : Store) (k : Kind) → place_in b st xs ≡ Err k → assign_cell_in b m xs x st ≡ Err k
  placed_err m xs x st k e = assign_placed b st m xs x ∙ ap (λ r. if_ok r (λ p. if_ok (value_in b st x) (put_at b st m p.0 p.1))) e

  pub placed_value : (m : Meaning) (xs : List Expr) (x : Expr) (st : Store) (p : ℤ × ℤ) (k : Kind) → place_in b st xs ≡ Ok p → value_in b st x ≡ Err k → assign_cell_in b m xs x st ≡ Err k
  placed_value m xs x st p k d e = assign_placed b st m xs x ∙ ap (λ r. if_ok r (λ p. if_ok (value_in b st x) (put_at b st m p.0 p.1))) d ∙ ap (λ r. if_ok r (put_at b st m p.0 p.1)) e

  pub placed_ok : (m : Meaning) (xs : List Expr) (x : Expr) (st : Store) (p : ℤ × ℤ) (n i j v : ℤ) → place_in b st xs ≡ Ok p → value_in b st x ≡ Ok n → i ≡ p.0 → j ≡ p.1 → v ≡ n → assign_cell_in b m xs x st ≡ put_at b st m i j v
  placed_ok m xs x st p n i j v d e ei ej ev =
      assign_placed b st m xs x ∙ ap (λ r. if_ok r (λ p. if_ok (value_in b st x) (put_at b st m p.0 p.1))) d ∙ ap (λ r. if_ok r (put_at b st m p.0 p.1)) e
      ∙ ap (λ z. put_at b st m z p.1 n) (sym ei) ∙ ap (λ z. put_at b st m i z n) (sym ej) ∙ ap (put_at b st m i j) (sym ev)

  -- ---- statements from one on
  pub stmts_next : (ss : List Stmt) (i : ℕ) (s : Stmt) (st : Store) → i < length ss → s ≡ get_or ss i s → stmts_in b (drop i ss) st ≡ if_ok (stmt_in b s st) (stmts_in b (drop (i + 1) ss))
  unfolding stmt_in stmts_in after_all
  stmts_next ss i s st below is = rw (add-one) (ap (λ l. stmts_in b l st) (drop-cons ss i s below ∙ ap (λ p. p ∷ drop (suc i) ss) (sym is)))

  pub stmts_ok : (ss : List Stmt) (i : ℕ) (s : Stmt) (st next : Store) → i < length ss → s ≡ get_or ss i s → stmt_in b s st ≡ Ok next → stmts_in b (drop (i + 1) ss) next ≡ stmts_in b (drop i ss) st
  stmts_ok ss i s st next below is e = sym (stmts_next ss i s st below is ∙ ap (λ r. if_ok r (stmts_in b (drop (i + 1) ss))) e)

  pub stmts_err : (ss : List Stmt) (i : ℕ) (s : Stmt) (st : Store) (k : Kind) → i < length ss → s ≡ get_or ss i s → stmt_in b s st ≡ Err k → stmts_in b (drop i ss) st ≡ Err k
  stmts_err ss i s st k below is e = stmts_next ss i s st below is ∙ ap (λ r. if_ok r (stmts_in b (drop (i + 1) ss))) e

  pub stmts_end : (ss : List Stmt) (i : ℕ) (st : Store) → length ss ≤ i → stmts_in b (drop i ss) st ≡ Ok st
  unfolding stmts_in after_all
  stmts_end ss i st past = ap (λ l. stmts_in b l st) (none ss i past)
    where
      none : (l : List Stmt) (i : ℕ) → length l ≤ i → drop i l ≡ []
      none [] zero past = refl
      none [] (suc i) past = refl
      none (n ∷ l) zero past = absurd (omega arith)
      none (n ∷ l) (suc i) past = none l i (omega arith)

  -- ---- turns from one on
  module _ (m : Meaning) (ss : List Stmt) (low : ℤ) (count : ℕ) where
    pub repeat_ok : (k : ℕ) (i : ℤ) (st next : Store) → k < count → i ≡ low +ℤ pos k → turn_in b m ss i st ≡ Ok next → repeated b m ss (low +ℤ pos (k + 1)) (count - (k + 1)) next ≡ repeated b m ss (low +ℤ pos k) (count - k) st
    unfolding repeated
    repeat_ok k i st next below is e = turns_ok (turn_in b m ss) low count k i st next below is e

    pub repeat_err : (k : ℕ) (i : ℤ) (st : Store) (t : Kind) → k < count → i ≡ low +ℤ pos k → turn_in b m ss i st ≡ Err t → repeated b m ss (low +ℤ pos k) (count - k) st ≡ Err t
    unfolding repeated
    repeat_err k i st t below is e = turns_err (turn_in b m ss) low count k i st t below is e

    pub repeat_end : (k : ℕ) (st : Store) → count ≤ k → repeated b m ss (low +ℤ pos k) (count - k) st ≡ Ok st
    unfolding repeated
    repeat_end k st past = turns_end (turn_in b m ss) low count k st past

    pub repeat_start : (st : Store) → repeated b m ss (low +ℤ pos 0) (count - 0) st ≡ repeated b m ss low count st
    repeat_start st = let e : count - 0 ≡ count = omega arith in let f : low +ℤ pos 0 ≡ low = omega (arith, ints) in ap (λ n. repeated b m ss (low +ℤ pos 0) n st) e ∙ ap (λ z. repeated b m ss z count st) f
