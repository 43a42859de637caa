-- What is counted of lists.
use Rattle.std.proofs.Common.{◌≡◌, ◌∙◌, refl, sym, ap, subst, inl, inr, ◌⊎◌, ⊎_elim, zero, suc, ◌+◌, ◌*◌, max, List, [], ◌∷◌, ◌++◌, length, map, Some, arith}
use Rattle.std.specs.List.{Contains}
use Rattle.std.proofs.lemmas.List.Elements.{Contains-append_cases, Contains-append_left, Contains-append_right}
use Rattle.pb_base.proofs.ListLemmas.{in_at, in_cases, in_head, in_none, in_tail}
use Rattle.pb_model.specs.Calls.{Outcomes}
use Rattle.pb_model.specs.Cells.{natural}
use Rattle.pb_plan.proofs.OnceLemmas.{Once}
use Rattle.pb_recursion.specs.Counts.{Counted, all_of, both, matrix_of, nothing}
use Rattle.pb_recursion.specs.Shapes.{Sides}
use Rattle.pb_runs.specs.Placed.{greatest_side, total}
use Rattle.pb_runs.specs.Unrolled.{Met}
use Rattle.pb_runs.proofs.BaseLemmas.{HaveSides, total_append}
use Rattle.pb_runs.proofs.CountLemmas.{head_once, rest_once}

-- ---- sums
pub same_counted : (a b : Counted) → a.calls ≡ b.calls → a.side ≡ b.side → a.cells ≡ b.cells → a ≡ b
same_counted a b calls side cells = λ i. record { calls = calls i; side = side i; cells = cells i }

both_swap : (a b c : Counted) → both a (both b c) ≡ both b (both a c)
both_swap a b c = same_counted (both a (both b c)) (both b (both a c)) (omega arith) (omega arith) (omega arith)

pub both_nothing : (a : Counted) → both nothing a ≡ a
both_nothing a = same_counted (both nothing a) a (omega arith) (omega arith) (omega arith)

pub all_append : (xs ys : List Counted) → all_of (xs ++ ys) ≡ both (all_of xs) (all_of ys)
all_append [] ys = sym (both_nothing (all_of ys))
all_append (x ∷ xs) ys = ap (both x) (all_append xs ys) ∙ same_counted (both x (both (all_of xs) (all_of ys))) (both (both x (all_of xs)) (all_of ys)) (omega arith) (omega arith) (omega arith)

-- ---- lists with the same elements
split : {A : Type 0} (x : A) (ys : List A) → Contains ys x → (us : List A) × (vs : List A) × (ys ≡ us ++ x ∷ vs)
split x [] h = absurd (in_none x h)
split x (y ∷ ys) h = elim (in_cases y x ys h) [
  | inl same ↦ ([], ys, ap (λ z. z ∷ ys) same)
  | inr later ↦ let rest = split x ys later in (y ∷ rest.0, rest.1, ap (λ l. y ∷ l) rest.2)
]

moved : {A : Type 0} (f : A → Counted) (x : A) (us vs : List A) → all_of (map f (us ++ x ∷ vs)) ≡ both (f x) (all_of (map f (us ++ vs)))
moved f x [] vs = refl
moved f x (u ∷ us) vs = ap (both (f u)) (moved f x us vs) ∙ both_swap (f u) (f x) (all_of (map f (us ++ vs)))

in_without : {A : Type 0} (x z : A) (us vs : List A) → Contains (us ++ vs) z → Contains (us ++ x ∷ vs) z
in_without x z us vs h = ⊎_elim (λ l. Contains-append_left us (x ∷ vs) z l) (λ r. Contains-append_right us (x ∷ vs) z (in_tail x z vs r)) (Contains-append_cases us vs z h)

without_in : {A : Type 0} (x z : A) (us vs : List A) → Contains (us ++ x ∷ vs) z → (x ≡ z) ⊎ Contains (us ++ vs) z
without_in x z us vs h = ⊎_elim
    (λ l. inr (Contains-append_left us vs z l))
    (λ r. elim (in_cases x z vs r) [
      | inl same ↦ inl same
      | inr later ↦ inr (Contains-append_right us vs z later)
    ])
    (Contains-append_cases us (x ∷ vs) z h)

-- once without one of them, which then isn't there
once_without : {A : Type 0} (x : A) (us vs : List A) → Once (us ++ x ∷ vs) → Once (us ++ vs) × (Contains (us ++ vs) x → ⊥)
once_without x [] vs once = (rest_once x vs once, head_once x vs once)
once_without {A} x (u ∷ us) vs once =
    let rest = once_without x us vs (rest_once u (us ++ x ∷ vs) once) in (
      cons_once u (us ++ vs) rest.0 (λ h. head_once u (us ++ x ∷ vs) once (in_without x u us vs h)),
      λ h. elim (in_cases u x (us ++ vs) h) [
        | inl same ↦ head_once u (us ++ x ∷ vs) once (subst (Contains (us ++ x ∷ vs)) (sym same) (Contains-append_right us (x ∷ vs) x (in_head x vs)))
        | inr later ↦ rest.1 later
      ],
    )
  where
    cons_once : {A : Type 0} (y : A) (xs : List A) → Once xs → (Contains xs y → ⊥) → Once (y ∷ xs)
    cons_once y xs h never zero zero x e f = refl
    cons_once y xs h never zero (suc j) x e f = absurd (never (let some : Some y ≡ Some x = e in let same : y ≡ x = cc in subst (Contains xs) (sym same) (in_at xs j x f)))
    cons_once y xs h never (suc i) zero x e f = absurd (never (let some : Some y ≡ Some x = f in let same : y ≡ x = cc in subst (Contains xs) (sym same) (in_at xs i x e)))
    cons_once y xs h never (suc i) (suc j) x e f = ap suc (h i j x e f)

pub all_same : {A : Type 0} (f : A → Counted) (xs ys : List A) → Once xs → Once ys → ((x : A) → Contains xs x → Contains ys x) → ((x : A) → Contains ys x → Contains xs x) → all_of (map f xs) ≡ all_of (map f ys)
all_same f [] [] once_x once_y to from = refl
all_same f [] (y ∷ ys) once_x once_y to from = absurd (in_none y (from y (in_head y ys)))
all_same f (x ∷ xs) ys once_x once_y to from =
    let s = split x ys (to x (in_head x xs)) in
    let once = once_without x s.0 s.1 (subst Once s.2 once_y) in
    let rest = all_same f xs (s.0 ++ s.1) (rest_once x xs once_x) once.0
    (λ z h. ⊎_elim (λ same. absurd (head_once x xs once_x (subst (Contains xs) (sym same) h))) (λ there. there) (without_in x z s.0 s.1 (subst (λ l. Contains l z) s.2 (to z (in_tail x z xs h)))))
    (λ z h. elim (in_cases x z xs (from z (subst (λ l. Contains l z) (sym s.2) (in_without x z s.0 s.1 h)))) [
      | inl same ↦ absurd (once.1 (subst (Contains (s.0 ++ s.1)) (sym same) h))
      | inr later ↦ later
    ]) in
    ap (both (f x)) rest ∙ sym (moved f x s.0 s.1) ∙ ap (λ l. all_of (map f l)) (sym s.2)

-- ---- matrices
pub greatest_append : (xs ys : List Outcomes) → greatest_side (xs ++ ys) ≡ max (greatest_side xs) (greatest_side ys)
greatest_append [] ys = omega arith
greatest_append (g ∷ xs) ys = let rest = greatest_append xs ys in omega (arith, rest)

-- what is counted of matrices with these sides
pub record AreTallied (ss : List Sides) (mats : List Outcomes) : Type 0 where
  pub calls : (all_of (map matrix_of ss)).calls ≡ 0
  pub side : greatest_side mats ≡ (all_of (map matrix_of ss)).side
  pub cells : total mats ≡ (all_of (map matrix_of ss)).cells

pub tallied : (ss : List Sides) (mats : List Outcomes) → HaveSides ss mats → AreTallied ss mats
tallied [] [] h = record { calls = refl; side = refl; cells = refl }
tallied [] (m ∷ mats) h = absurd h
tallied (s ∷ ss) [] h = absurd h
tallied (s ∷ ss) (m ∷ mats) h =
    let rest = tallied ss mats h.1 in
    let area : length m.cells ≡ natural s.0 * natural s.1 = h.0.2 ∙ (λ i. h.0.0 i * h.0.1 i) in
    record {
      calls = omega (arith, rest.calls);
      side = omega (arith, rest.side, h.0.0, h.0.1);
      cells = omega (arith, rest.cells, area);
    }

-- how many calls are met between two counts, and what is counted of the matrices that are met
pub record Tallies (n next : Met) (mats : List Outcomes) (k : Counted) : Type 0 where
  pub calls : next.calls ≡ n.calls + k.calls
  pub side : greatest_side mats ≡ k.side
  pub cells : total mats ≡ k.cells

pub tallies_none : (n : Met) → Tallies n n [] nothing
tallies_none n = record { calls = omega arith; side = refl; cells = refl }

pub tallies_both : (n m next : Met) (xs ys : List Outcomes) (a b : Counted) → Tallies n m xs a → Tallies m next ys b → Tallies n next (xs ++ ys) (both a b)
tallies_both n m next xs ys a b h l = record {
  calls = omega (arith, h.calls, l.calls);
  side = omega (arith, greatest_append xs ys, h.side, l.side);
  cells = omega (arith, total_append xs ys, h.cells, l.cells);
}
