-- How often a number stands in a list.
use Rattle.std.proofs.Common.{◌≡◌, ◌∙◌, refl, sym, ap, subst, inl, inr, ⊎_elim, ℕ, zero, suc, ◌+◌, ◌<◌, ◌≤◌, Bool, true, false, List, [], ◌∷◌, ◌++◌, slice_get, Some, None, arith}
use Rattle.std.specs.Prelude.{◌==◌}
use Rattle.std.specs.List.{Contains, flat_map, range_with_len}
use Rattle.std.proofs.lemmas.Bool.{cases_lt, eq-eqb, eqb-true}
use Rattle.pb_base.proofs.ListLemmas.{at_in, in_at, in_cases, in_head, in_none, in_tail}
use Rattle.pb_plan.proofs.OnceLemmas.{Once}

abbrev pub one_if : Bool → ℕ
one_if true = 1
one_if false = 0

abbrev pub counted : ℕ → List ℕ → ℕ
counted c [] = 0
counted c (x ∷ xs) = one_if (x == c) + counted c xs

pub counted_append : (c : ℕ) (xs ys : List ℕ) → counted c (xs ++ ys) ≡ counted c xs + counted c ys
counted_append c [] ys = omega arith
counted_append c (x ∷ xs) ys = let rest = counted_append c xs ys in omega (arith, rest)

one_of : (x c : ℕ) → x ≡ c → one_if (x == c) ≡ 1
one_of x c e = rw (eq-eqb x c e) refl

none_of : (x c : ℕ) → (x ≡ c → ⊥) → one_if (x == c) ≡ 0
none_of x c n = by (x == c) refl
  where
    by : (b : Bool) → (x == c) ≡ b → one_if b ≡ 0
    by true e = absurd (n (eqb-true x c e))
    by false e = refl

pub in_counted : (c : ℕ) (xs : List ℕ) → Contains xs c → 1 ≤ counted c xs
in_counted c [] h = absurd (in_none c h)
in_counted c (x ∷ xs) h = elim (in_cases x c xs h) [
  | inl same ↦ let one = one_of x c same in omega (arith, one)
  | inr later ↦ let rest = in_counted c xs later in omega (arith, rest)
]

pub counted_in : (c : ℕ) (xs : List ℕ) → 1 ≤ counted c xs → Contains xs c
counted_in c [] h = absurd (omega (arith, h))
counted_in c (x ∷ xs) h = by (x == c) refl (counted_in c xs)
  where
    by : (b : Bool) → (x == c) ≡ b → (1 ≤ counted c xs → Contains xs c) → Contains (x ∷ xs) c
    by true e rest = subst (Contains (x ∷ xs)) (eqb-true x c e) (in_head x xs)
    by false e rest = let none : one_if (x == c) ≡ 0 = ap one_if e in in_tail x c xs (rest (omega (arith, h, none)))

pub counted_none : (c : ℕ) (xs : List ℕ) → (Contains xs c → ⊥) → counted c xs ≡ 0
counted_none c xs n = ⊎_elim (λ (low : counted c xs < 1). omega (arith, low)) (λ (some : 1 ≤ counted c xs). absurd (n (counted_in c xs some))) (cases_lt (counted c xs) 1)

pub rest_once : {A : Type 0} (x : A) (xs : List A) → Once (x ∷ xs) → Once xs
rest_once x xs h i j y e f = let same : suc i ≡ suc j = h (suc i) (suc j) y e f in omega (arith, same)

pub head_once : {A : Type 0} (x : A) (xs : List A) → Once (x ∷ xs) → Contains xs x → ⊥
head_once x xs h in_rest = let at = found xs x in_rest in let same : zero ≡ suc at.0 = h zero (suc at.0) x refl at.1 in omega (arith, same)
  where
    found : {A : Type 0} (xs : List A) (x : A) → Contains xs x → (k : ℕ) × (slice_get xs k ≡ Some x)
    found xs x k = at_in xs x k

-- what stands in a list in which nothing stands twice is counted once
pub once_counted : (c : ℕ) (xs : List ℕ) → Once xs → Contains xs c → counted c xs ≡ 1
once_counted c [] h k = absurd (in_none c k)
once_counted c (x ∷ xs) h k = elim (in_cases x c xs k) [
  | inl same ↦
      let one = one_of x c same in
      let none = counted_none c xs (λ later. head_once x xs h (subst (Contains xs) (sym same) later)) in
      omega (arith, one, none)
  | inr later ↦
      let none = none_of x c (λ same. head_once x xs h (subst (Contains xs) (sym same) later)) in
      let rest = once_counted c xs (rest_once x xs h) later in
      omega (arith, none, rest)
]

-- two lists with the same numbers, in each of which nothing stands twice
pub counted_same : (c : ℕ) (xs ys : List ℕ) → Once xs → Once ys → (Contains xs c → Contains ys c) → (Contains ys c → Contains xs c) → counted c xs ≡ counted c ys
counted_same c xs ys once_x once_y to from = ⊎_elim
    (λ (low : counted c xs < 1).
    let none : counted c xs ≡ 0 = omega (arith, low) in
    let other = counted_none c ys (λ h. let some = in_counted c xs (from h) in omega (arith, some, none)) in
    omega (arith, none, other))
    (λ (some : 1 ≤ counted c xs). let h = counted_in c xs some in let one = once_counted c xs once_x h in let two = once_counted c ys once_y (to h) in omega (arith, one, two))
    (cases_lt (counted c xs) 1)

-- each number is counted once where none is counted more than once
pub counted_once : (xs : List ℕ) → ((c : ℕ) → counted c xs ≤ 1) → Once xs
counted_once [] few i j x e f = absurd (let wrong : None ≡ Some x = e in cc)
counted_once (y ∷ xs) few zero zero x e f = refl
counted_once (y ∷ xs) few zero (suc j) x e f = absurd (twice y x xs few e (in_at xs j x f))
  where
    twice : (y x : ℕ) (xs : List ℕ) → ((c : ℕ) → counted c (y ∷ xs) ≤ 1) → Some y ≡ Some x → Contains xs x → ⊥
    twice y x xs few e h = let same : y ≡ x = cc in let one = one_of y x same in let more = in_counted x xs h in omega (arith, one, more, few x)
counted_once (y ∷ xs) few (suc i) zero x e f = absurd (twice y x xs few f (in_at xs i x e))
  where
    twice : (y x : ℕ) (xs : List ℕ) → ((c : ℕ) → counted c (y ∷ xs) ≤ 1) → Some y ≡ Some x → Contains xs x → ⊥
    twice y x xs few e h = let same : y ≡ x = cc in let one = one_of y x same in let more = in_counted x xs h in omega (arith, one, more, few x)
counted_once (y ∷ xs) few (suc i) (suc j) x e f = ap suc (counted_once xs (λ c. let here = few c in omega (arith, here)) i j x e f)

-- ---- numbers in a row
pub row_split : (n a b : ℕ) → range_with_len n (a + b) ≡ range_with_len n a ++ range_with_len (n + a) b
row_split n zero b = let here : 0 + b ≡ b = omega arith in let start : n + 0 ≡ n = omega arith in rw (here, start) refl
row_split n (suc a) b =
    let here : suc a + b ≡ suc (a + b) = omega arith in
    let start : n + suc a ≡ (n + 1) + a = omega arith in
    rw (here, start) (ap (λ l. n ∷ l) (row_split (n + 1) a b))

pub counted_row : (c n a b : ℕ) → counted c (range_with_len n (a + b)) ≡ counted c (range_with_len n a) + counted c (range_with_len (n + a) b)
counted_row c n a b = ap (counted c) (row_split n a b) ∙ counted_append c (range_with_len n a) (range_with_len (n + a) b)

pub in_row : (c n k : ℕ) → Contains (range_with_len n k) c → (n ≤ c) × (c < n + k)
in_row c n zero h = absurd (in_none c h)
in_row c n (suc k) h = elim (in_cases n c (range_with_len (n + 1) k) h) [
  | inl same ↦ (omega (arith, same), omega (arith, same))
  | inr later ↦ let rest = in_row c (n + 1) k later in (omega (arith, rest.0), omega (arith, rest.1))
]

pub row_in : (c n k : ℕ) → n ≤ c → c < n + k → Contains (range_with_len n k) c
row_in c n zero low high = absurd (omega (arith, low, high))
row_in c n (suc k) low high = ⊎_elim
    (λ (less : n < c). in_tail n c (range_with_len (n + 1) k) (row_in c (n + 1) k (omega (arith, less)) (omega (arith, high))))
    (λ (more : c ≤ n). let same : n ≡ c = omega (arith, low, more) in subst (Contains (range_with_len n (suc k))) same (in_head n (range_with_len (n + 1) k)))
    (cases_lt n c)

pub row_few : (c n k : ℕ) → counted c (range_with_len n k) ≤ 1
row_few c n zero = omega arith
row_few c n (suc k) = by (n == c) refl (row_few c (n + 1) k)
  where
    by : (b : Bool) → (n == c) ≡ b → counted c (range_with_len (n + 1) k) ≤ 1 → one_if (n == c) + counted c (range_with_len (n + 1) k) ≤ 1
    by true e rest =
        let same = eqb-true n c e in
        let one : one_if (n == c) ≡ 1 = ap one_if e in
        let none = counted_none c (range_with_len (n + 1) k) (λ h. let low = (in_row c (n + 1) k h).0 in omega (arith, low, same)) in
        omega (arith, one, none)
    by false e rest = let none : one_if (n == c) ≡ 0 = ap one_if e in omega (arith, none, rest)

pub row_once : (n k : ℕ) → Once (range_with_len n k)
row_once n k = counted_once (range_with_len n k) (λ c. row_few c n k)

-- a list with a list for each element
pub counted_flat : {A : Type 0} (c : ℕ) (f g : A → List ℕ) (xs : List A) → ((x : A) → Contains xs x → counted c (f x) ≡ counted c (g x)) → counted c (flat_map f xs) ≡ counted c (flat_map g xs)
counted_flat c f g [] same = refl
counted_flat c f g (x ∷ xs) same =
    counted_append c (f x) (flat_map f xs) ∙ (λ i. same x (in_head x xs) i + counted_flat c f g xs (λ y h. same y (in_tail x y xs h)) i) ∙ sym (counted_append c (g x) (flat_map g xs))
