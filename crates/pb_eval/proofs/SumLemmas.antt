-- Sums of first cells along a line.
use Rattle.std.proofs.Common.{◌≡◌, ◌∙◌, refl, sym, ap, subst, ⊎_elim, ℕ, zero, suc, ◌+◌, ◌<◌, ◌≤◌, ℤ, List, [], ◌∷◌, ◌++◌, length, length-append, drop, get_or, IsTrue, Ok, Option, Some, None, IfSome, arith}
use Rattle.std.specs.Prelude.{is_some}
use Rattle.std.specs.List.{All}
use Rattle.std.proofs.lemmas.Bool.{cases_lt}
use Rattle.std.proofs.lemmas.List.{get_or-map, length-map}
use Rattle.std.proofs.lemmas.Option.{get_or_from_slice_get, slice_get_within}
use Rattle.pb_syntax.specs.declared.tree.expression.Operator.{Operator}
use Rattle.pb_values.specs.Cells.{Turn}
use Rattle.pb_model.specs.Bodies.{Bindings, Store, by_operator, if_ok}
use Rattle.pb_statements.specs.Shown.{number_told}
use Rattle.pb_eval.specs.FirstCells.{TellsFirst}
use Rattle.pb_eval.specs.Moving.{cell_at, cells_at}
use Rattle.pb_eval.specs.Sums.{AreStepsOf, IsFirstOf, IsStepOf, IsSumOf, IsToldAt, SumValue}
use Rattle.pb_eval.specs.Terms.{TermsValue, steps_value, term_value, terms_value}
use Rattle.pb_eval.specs.declared.moving.Moving.{Moving}
use Rattle.pb_eval.specs.declared.terms.Term.{Term}
use Rattle.pb_statements.proofs.SceneLemmas.{get_or_any}
use Rattle.pb_eval.proofs.FirstCellLemmas.{cell_is}
use Rattle.pb_eval.proofs.TermLemmas.{steps_end, steps_ok}

-- ---- where a cell of the list is
module _ (ms : List Moving) (i : ℕ) (t : Term) (m : Moving) (is : IsFirstOf ms t m) where
  within : is.k < length (cells_at ms i)
  within = omega (arith, slice_get_within ms is.k m is.there, length-map ms (cell_at i))

  at_place : (d : ℕ) → get_or (cells_at ms i) is.k d ≡ cell_at i m
  at_place d = get_or-map (cell_at i) ms is.k m d (slice_get_within ms is.k m is.there) ∙ ap (cell_at i) (get_or_from_slice_get ms is.k m m is.there)

  told_cell : (turn : Turn) → All (λ c. IsTrue (is_some (turn.outcomes c))) (cells_at ms i) → IsTrue (is_some (turn.outcomes (cell_at i m)))
  told_cell turn told = subst (λ c. IsTrue (is_some (turn.outcomes c))) (at_place 0) (told is.k 0 within)

pub told_at : (turn : Turn) (ms : List Moving) (i : ℕ) (t : TermsValue) (s : SumValue) → IsSumOf ms t s → All (λ c. IsTrue (is_some (turn.outcomes c))) (cells_at ms i) → IsToldAt turn i s
told_at turn ms i t s is told = record {
  first = told_cell ms i t.first s.first is.first turn told;
  rest = λ k d below.
      let e : k < length t.rest = omega (arith, below, is.rest.count) in
      let step = is.rest.each k (d.0, t.first) d e in
      told_cell ms i (get_or t.rest k (d.0, t.first)).1 (get_or s.rest k d).1 step.first turn told;
}

-- ---- what they come to
module _ (b : Bindings) (st : Store) (turn : Turn) (ms : List Moving) (i : ℕ) (tells : TellsFirst turn (cells_at ms i) b) where
  first_value : (t : Term) (m : Moving) (n v : ℤ) → IsFirstOf ms t m → n ≡ number_told turn (cell_at i m) → v ≡ n → term_value b st t ≡ Ok v
  first_value t m n v is told same =
      cell_is b st turn (cells_at ms i) tells t is.k 0 n v is.term (within ms i t m is) (told ∙ ap (number_told turn) (sym (at_place ms i t m is 0))) same

  module _ (t : TermsValue) (s : SumValue) (is : IsSumOf ms t s) where
    pub sum_begin : (m : Moving) (n v : ℤ) → m ≡ s.first → n ≡ number_told turn (cell_at i m) → v ≡ n → steps_value b st v (drop 0 t.rest) ≡ terms_value b st t
    unfolding terms_value
    sum_begin m n v is_m told same =
        ap (steps_value b st v) (drop_none t.rest) ∙ sym (ap (λ r. if_ok r (λ a. steps_value b st a t.rest)) (first_value t.first s.first n v is.first (told ∙ ap (λ (q : Moving). number_told turn (cell_at i q)) is_m) same))
      where
        drop_none : {A : Type 0} (l : List A) → drop 0 l ≡ l
        drop_none [] = refl
        drop_none (x ∷ l) = refl

    pub sum_more : (items : List (Operator × Moving)) → items ≡ s.rest → (k : ℕ) (p : Operator × Moving) (total n w m u : ℤ) → k < length items → n ≡ number_told turn (cell_at i (get_or items k p).1) → w ≡ n → by_operator (get_or items k p).0 total (Ok w) ≡ Ok m → u ≡ m
        → steps_value b st u (drop (k + 1) t.rest) ≡ steps_value b st total (drop k t.rest)
    sum_more items are k p total n w m u below told same made back =
        let d : Operator × Term = (p.0, t.first) in
        let here : k < length t.rest = omega (arith, below, ap length are, is.rest.count) in
        let step : IsStepOf ms (get_or t.rest k d) (get_or items k p) = subst (λ l. IsStepOf ms (get_or t.rest k d) (get_or l k p)) (sym are) (is.rest.each k d p here) in
        steps_ok b st t.rest k d total m u here back
        ((λ j. by_operator (step.operator j) total (first_value (get_or t.rest k d).1 (get_or items k p).1 n w step.first told same j)) ∙ made)

    pub sum_end : (items : List (Operator × Moving)) → items ≡ s.rest → (k : ℕ) (total : ℤ) → length items ≤ k → steps_value b st total (drop k t.rest) ≡ Ok total
    sum_end items are k total past = steps_end b st t.rest k total (omega (arith, past, ap length are, is.rest.count))

-- ---- while they are taken
get_left : {A : Type 0} (xs ys : List A) (k : ℕ) (d : A) → k < length xs → get_or (xs ++ ys) k d ≡ get_or xs k d
get_left [] ys k d h = absurd (omega (arith, h))
get_left (x ∷ xs) ys zero d h = refl
get_left (x ∷ xs) ys (suc k) d h = get_left xs ys k d (omega (arith, h))

get_last : {A : Type 0} (xs : List A) (x : A) (k : ℕ) (d : A) → k ≡ length xs → get_or (xs ++ x ∷ []) k d ≡ x
get_last [] x k d e = ap (λ n. get_or (x ∷ []) n d) e
get_last (y ∷ xs) x zero d e = absurd (omega (arith, e))
get_last (y ∷ xs) x (suc k) d e = get_last xs x k d (omega (arith, e))

-- the first of them stand for the first terms
abbrev pub AreFirstSteps : List Moving → List (Operator × Term) → List (Operator × Moving) → ℕ → Type 0
AreFirstSteps ms ts ss n = (k : ℕ) (t : Operator × Term) (s : Operator × Moving) → k < n → IsStepOf ms (get_or ts k t) (get_or ss k s)

pub steps_more_of : (ms : List Moving) (ts : List (Operator × Term)) (n : ℕ) (d : Operator × Term) (old new : List (Operator × Moving)) (m : Moving) → n < length ts → length old ≡ n → AreFirstSteps ms ts old n
    → IsFirstOf ms (get_or ts n d).1 m → new ≡ old ++ ((get_or ts n d).0, m) ∷ [] → AreFirstSteps ms ts new (n + 1)
steps_more_of ms ts n d old new m below count before one e k t s less =
    let p : Operator × Moving = ((get_or ts n d).0, m) in
    ⊎_elim
    (λ (early : k < n). subst (λ l. IsStepOf ms (get_or ts k t) (get_or l k s)) (sym e) (subst (IsStepOf ms (get_or ts k t)) (sym (get_left old (p ∷ []) k s (omega (arith, early, count)))) (before k t s early)))
    (λ (late : n ≤ k).
    let here : k ≡ n = omega (arith, less, late) in
    let same : get_or ts k t ≡ get_or ts n d = ap (λ j. get_or ts j t) here ∙ get_or_any ts n t d below in
    let last : get_or new k s ≡ p = ap (λ l. get_or l k s) e ∙ get_last old p k s (here ∙ sym count) in
    subst (IsStepOf ms (get_or ts k t)) (sym last) (subst (λ q. IsStepOf ms q p) (sym same) (record { operator = refl; first = one })))
    (cases_lt k n)

pub longer_by_one : (old new : List (Operator × Moving)) (p : Operator × Moving) (n : ℕ) → length old ≡ n → new ≡ old ++ p ∷ [] → length new ≡ n + 1
longer_by_one old new p n count e = ap length e ∙ omega (arith, length-append old (p ∷ []), count)

pub steps_all_of : (ms : List Moving) (ts : List (Operator × Term)) (ss : List (Operator × Moving)) (n : ℕ) → length ts ≤ n → n ≤ length ts → length ss ≡ n → AreFirstSteps ms ts ss n → AreStepsOf ms ts ss
steps_all_of ms ts ss n past most count are = record { count = omega (arith, past, most, count); each = λ k t s below. are k t s (omega (arith, below, past)) }

-- what follows from what is so of something that is there
pub some_else : {A : Type 0} {P Q : A → Type 0} (o : Option A) → ((a : A) → P a → Q a) → IfSome o P → IfSome o Q
some_else None f h = h
some_else (Some a) f h = f a h
