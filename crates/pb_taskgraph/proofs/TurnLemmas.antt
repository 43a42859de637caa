-- What a port tells while the cells of a task are written.
use Rattle.std.proofs.Common.{◌≡◌, ◌∙◌, refl, sym, ap, subst, inl, inr, ℕ, zero, suc, ◌<◌, ◌≤◌, ◌+◌, List, [], ◌∷◌, ◌++◌, length, take, drop, get_or, Option, Some, IsSome, slice_get, add-zero, zero-add, arith}
use Rattle.std.specs.List.{Contains}
use Rattle.std.proofs.lemmas.Bool.Decides.{nat_tests}
use Rattle.std.proofs.lemmas.List.{drop-drop, drop_all, length-map, take-map, take_all, take_more}
use Rattle.std.proofs.lemmas.Option.{gets, get_or_from_slice_get, slice_get-map, slice_get_within}
use Rattle.pb_values.specs.declared.outcome.Outcome.{Outcome}
use Rattle.pb_values.specs.Cells.{Turn}
use Rattle.pb_taskgraph.specs.Plans.{Plan, outcome_at}
use Rattle.pb_taskgraph.specs.Turns.{Begins, MayRead, after_all, after_some, after_write, entries_of, with_outcome, with_outcomes}

abbrev pub as_turn : ℕ → (ℕ → Option Outcome) → List (ℕ × Outcome) → Turn
as_turn t outcomes left = record { task = t; outcomes = outcomes; left = left }

pub slice_get-drop : {A : Type 0} (k i : ℕ) (xs : List A) → slice_get (drop k xs) i ≡ slice_get xs (k + i)
slice_get-drop zero i xs = ap (slice_get xs) (sym (zero-add i))
slice_get-drop (suc k) i [] = refl
slice_get-drop (suc k) i (x ∷ xs) = slice_get-drop k i xs ∙ (let e : suc (k + i) ≡ suc k + i = omega arith in ap (slice_get (x ∷ xs)) e)

pub with-same : (known : ℕ → Option Outcome) (cell : ℕ) (v : Outcome) (c : ℕ) → c ≡ cell → with_outcome known cell v c ≡ Some v
with-same known cell v c same = grind (arith, nat_tests)

pub with-other : (known : ℕ → Option Outcome) (cell : ℕ) (v : Outcome) (c : ℕ) → (c ≡ cell → ⊥) → with_outcome known cell v c ≡ known c
with-other known cell v c other = grind (arith, nat_tests)

-- one cell more at the end
with-push : (known : ℕ → Option Outcome) (es : List (ℕ × Outcome)) (e : ℕ × Outcome) → with_outcomes known (es ++ e ∷ []) ≡ with_outcome (with_outcomes known es) e.0 e.1
unfolding with_outcomes
with-push known [] e = refl
with-push known (d ∷ es) e = with-push (with_outcome known d.0 d.1) es e

module _ (solution : List Outcome) where
  pub with-kept : (cells : List ℕ) (known : ℕ → Option Outcome) (c : ℕ) → known c ≡ Some (outcome_at solution c) → with_outcomes known (entries_of solution cells) c ≡ Some (outcome_at solution c)
  unfolding with_outcomes
  with-kept [] known c is = is
  with-kept (d ∷ cells) known c is = with-kept cells (with_outcome known d (outcome_at solution d)) c
      (grind (arith, nat_tests))

  pub with-in : (cells : List ℕ) (known : ℕ → Option Outcome) (c : ℕ) → Contains cells c → with_outcomes known (entries_of solution cells) c ≡ Some (outcome_at solution c)
  unfolding with_outcomes
  with-in [] known c h = absurd (omega (arith, h.1))
  with-in (d ∷ cells) known c (zero, below, is) =
      with-kept cells (with_outcome known d (outcome_at solution d)) c (with-same known d (outcome_at solution d) c (sym is) ∙ ap (λ z. Some (outcome_at solution z)) is)
  with-in (d ∷ cells) known c (suc k, below, is) = with-in cells (with_outcome known d (outcome_at solution d)) c (k, omega arith, is)

-- a turn after some of its cells are written: none, one more, all
pub some-none : (turn : Turn) → after_some 0 turn ≡ turn
unfolding after_some with_outcomes
some-none turn = refl

pub some-more : (turn : Turn) (k : ℕ) (e : ℕ × Outcome) → slice_get turn.left k ≡ Some e → after_some (k + 1) turn ≡ after_write (after_some k turn) e.0 e.1
unfolding after_some
some-more turn k e at =
    let more : take (k + 1) turn.left ≡ take k turn.left ++ e ∷ [] = take_more turn.left k e (slice_get_within turn.left k e at) ∙ ap (λ x. take k turn.left ++ x ∷ []) (get_or_from_slice_get turn.left k e e at) in
    let outcomes : with_outcomes turn.outcomes (take (k + 1) turn.left) ≡ with_outcome (with_outcomes turn.outcomes (take k turn.left)) e.0 e.1 = ap (with_outcomes turn.outcomes) more ∙ with-push turn.outcomes (take k turn.left) e in
    let left : drop (k + 1) turn.left ≡ drop 1 (drop k turn.left) = sym (drop-drop 1 k turn.left) in
    ap (λ f. as_turn turn.task f (drop (k + 1) turn.left)) outcomes ∙ ap (as_turn turn.task (with_outcome (with_outcomes turn.outcomes (take k turn.left)) e.0 e.1)) left

pub some-all : (turn : Turn) (k : ℕ) → length turn.left ≤ k → after_some k turn ≡ after_all turn
unfolding after_some after_all
some-all turn k past = ap (λ es. as_turn turn.task (with_outcomes turn.outcomes es) (drop k turn.left)) (take_all k turn.left past) ∙ ap (as_turn turn.task (with_outcomes turn.outcomes turn.left)) (drop_all k turn.left past)

-- what stands first of what is left
pub next-is : (solution : List Outcome) (own : List ℕ) (k c : ℕ) (v : Outcome) → slice_get (drop k (entries_of solution own)) 0 ≡ Some (c, v) → (k < length own) × (get_or own k 0 ≡ c) × (outcome_at solution c ≡ v)
next-is solution own k c v at =
    let entry : ℕ → ℕ × Outcome = λ d. (d, outcome_at solution d) in
    let there : slice_get (entries_of solution own) (k + 0) ≡ Some (c, v) = sym (slice_get-drop k 0 (entries_of solution own)) ∙ at in
    let inside : k < length own = omega (arith, slice_get_within (entries_of solution own) (k + 0) (c, v) there, length-map own entry) in
    let same : entry (get_or own k 0) ≡ (c, v) = grind (arith, gets, slice_get-map entry own k) in
    let cell : get_or own k 0 ≡ c = ap (λ e. e.0) same in
    (inside, cell, ap (outcome_at solution) (sym cell) ∙ ap (λ e. e.1) same)

-- while a task is run: what it may read is told, and the next cell of its own order may be written
module _ (p : Plan) (t : ℕ) (start : Turn) (b : Begins p t start) (k : ℕ) (turn : Turn) (now : turn ≡ after_some k start) where
  told : (c : ℕ) → MayRead p t k c → with_outcomes start.outcomes (entries_of p.solution (take k (p.order t))) c ≡ Some (outcome_at p.solution c)
  told c (inl given) = with-kept p.solution (take k (p.order t)) start.outcomes c (b.inputs c given)
  told c (inr (inl before)) = with-kept p.solution (take k (p.order t)) start.outcomes c (b.before before.0 c before.1 before.2)
  told c (inr (inr own)) = with-in p.solution (take k (p.order t)) start.outcomes c own

  pub may-read : (c : ℕ) → MayRead p t k c → turn.outcomes c ≡ Some (outcome_at p.solution c)
  unfolding after_some
  may-read c may =
      ap (λ (s : Turn). s.outcomes c) now
      ∙ ap (λ es. with_outcomes start.outcomes es c) (ap (take k) b.left ∙ take-map (λ (d : ℕ). (d, outcome_at p.solution d)) k (p.order t))
      ∙ told c may

  pub may-read_some : (c : ℕ) → MayRead p t k c → IsSome (turn.outcomes c)
  may-read_some c may = let some : IsSome (Some (outcome_at p.solution c)) = refl in subst IsSome (sym (may-read c may)) some

  pub read-is : (c : ℕ) (v : Outcome) → MayRead p t k c → turn.outcomes c ≡ Some v → v ≡ outcome_at p.solution c
  read-is c v may at = let same : Some v ≡ Some (outcome_at p.solution c) = sym at ∙ may-read c may in cc

  first : slice_get turn.left 0 ≡ slice_get start.left k
  unfolding after_some
  first = ap (λ (s : Turn). slice_get s.left 0) now ∙ slice_get-drop k 0 start.left ∙ ap (slice_get start.left) (add-zero k)

  pub may-write : (c : ℕ) (v : Outcome) → k < length (p.order t) → get_or (p.order t) k 0 ≡ c → v ≡ outcome_at p.solution c → slice_get turn.left 0 ≡ Some (c, v)
  may-write c v below at is = first ∙ ap (λ es. slice_get es k) b.left ∙ grind (arith, gets, slice_get-map {B = ℕ × Outcome} (λ (d : ℕ). (d, outcome_at p.solution d)) (p.order t) k)

  pub written : (c : ℕ) (v : Outcome) → slice_get turn.left 0 ≡ Some (c, v) → after_write turn c v ≡ after_some (k + 1) start
  written c v at = ap (λ (s : Turn). after_write s c v) now ∙ sym (some-more start k (c, v) (sym first ∙ at))

  pub all-written : length (p.order t) ≤ k → turn ≡ after_all start
  all-written past = now ∙ some-all start k (omega (arith, ap length b.left, length-map {B = ℕ × Outcome} (p.order t) (λ (c : ℕ). (c, outcome_at p.solution c))))
