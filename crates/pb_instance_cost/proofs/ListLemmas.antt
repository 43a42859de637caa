-- Sums over lists: one over each of another, and over lists that contain the same.
use Rattle.std.proofs.Common.{◌≡◌, ◌∙◌, refl, sym, ap, subst, inl, inr, ◌⊎◌, ⊎_elim, ℕ, suc, ◌+◌, ◌<◌, ◌≤◌, Bool, true, false, ◌||◌, List, [], ◌∷◌, length, map, take, get_or, slice_get, Some, arith}
use Rattle.std.specs.Prelude.{sum_by}
use Rattle.std.specs.List.{Contains, enumerate_from, flat_map, list_any}
use Rattle.std.proofs.lemmas.List.{length-append, take_all}
use Rattle.std.proofs.lemmas.List.Sums.{sum_by-append, sum_by-cons, sum_by_more}
use Rattle.std.proofs.lemmas.List.FromFn.{get_or-enumerate_from, length-enumerate_from}
use Rattle.std.proofs.lemmas.Option.{get_or_from_slice_get}
use Rattle.pb_check.proofs.FirstLemmas.{some_at}
use Rattle.pb_base.proofs.ListLemmas.{at_in, in_cases, in_head, in_none, in_tail}
use Rattle.pb_plan.proofs.OnceLemmas.{Once}

module _ {A : Type 0} where
  pub same_sums : (f g : A → ℕ) (xs : List A) → ((x : A) → Contains xs x → f x ≡ g x) → sum_by f xs ≡ sum_by g xs
  same_sums f g [] same = refl
  same_sums f g (x ∷ xs) same = omega (arith, sum_by-cons f x xs, sum_by-cons g x xs, same x (in_head x xs), same_sums f g xs (λ y h. same y (in_tail x y xs h)))

  pub no_sum : (xs : List A) → sum_by (λ (x : A). 0) xs ≡ 0
  no_sum [] = refl
  no_sum (x ∷ xs) = omega (arith, sum_by-cons (λ (x : A). 0) x xs, no_sum xs)

  pub two_sums : (f g : A → ℕ) (xs : List A) → sum_by (λ x. f x + g x) xs ≡ sum_by f xs + sum_by g xs
  two_sums f g [] = refl
  two_sums f g (x ∷ xs) = omega (arith, sum_by-cons f x xs, sum_by-cons g x xs, sum_by-cons (λ x. f x + g x) x xs, two_sums f g xs)

module _ {A : Type 0} where
  pub sum_flat : {B : Type 0} (g : B → ℕ) (f : A → List B) (xs : List A) → sum_by g (flat_map f xs) ≡ sum_by (λ x. sum_by g (f x)) xs
  sum_flat g f [] = refl
  sum_flat g f (x ∷ xs) = omega (arith, sum_by-append g (f x) (flat_map f xs), sum_by-cons (λ x. sum_by g (f x)) x xs, sum_flat g f xs)

  pub sum_map : {B : Type 0} (g : B → ℕ) (f : A → B) (xs : List A) → sum_by g (map f xs) ≡ sum_by (λ x. g (f x)) xs
  sum_map g f [] = refl
  sum_map g f (x ∷ xs) = omega (arith, sum_by-cons g (f x) (map f xs), sum_by-cons (λ x. g (f x)) x xs, sum_map g f xs)

  pub length_flat : {B : Type 0} (f : A → List B) (xs : List A) → length (flat_map f xs) ≡ sum_by (λ x. length (f x)) xs
  length_flat f [] = refl
  length_flat f (x ∷ xs) = omega (arith, length-append (f x) (flat_map f xs), sum_by-cons (λ x. length (f x)) x xs, length_flat f xs)

  -- either list first
  pub sum_swap : {B : Type 0} (f : A → B → ℕ) (xs : List A) (ys : List B) → sum_by (λ x. sum_by (f x) ys) xs ≡ sum_by (λ y. sum_by (λ x. f x y) xs) ys
  sum_swap f [] ys = sym (no_sum ys)
  sum_swap f (x ∷ xs) ys = sum_by-cons (λ x. sum_by (f x) ys) x xs ∙ ap (λ n. sum_by (f x) ys + n) (sum_swap f xs ys) ∙ sym (two_sums (f x) (λ y. sum_by (λ z. f z y) xs) ys) ∙ same_sums _ _ ys (λ y h. sym (sum_by-cons (λ z. f z y) x xs))

  -- ---- lists in which nothing stands twice
  abbrev Apart : List A → Type 0
  Apart [] = Unit {0}
  Apart (x ∷ xs) = (Contains xs x → ⊥) × Apart xs

  apart : (xs : List A) → Once xs → Apart xs
  apart [] once = tt
  apart (x ∷ xs) once = (
    λ c. let at = at_in xs x c in absurd (omega (arith, once 0 (suc at.0) x refl at.1)),
    apart xs (λ i j y e f. omega (arith, once (suc i) (suc j) y e f)),
  )

  -- without an element
  record Without (f : A → ℕ) (x : A) (ys : List A) : Type 0 where
    rest : List A
    sum : sum_by f ys ≡ f x + sum_by f rest
    distinct : Apart rest
    back : (z : A) → Contains rest z → Contains ys z × (z ≡ x → ⊥)
    there : (z : A) → Contains ys z → (z ≡ x) ⊎ Contains rest z

  without : (f : A → ℕ) (x : A) (ys : List A) → Apart ys → Contains ys x → Without f x ys
  without f x [] d c = absurd (in_none x c)
  without f x (y ∷ ys) d c = ⊎_elim
      (λ same. record {
        rest = ys;
        sum = sum_by-cons f y ys ∙ ap (λ z. f z + sum_by f ys) same;
        distinct = d.1;
        back = λ z h. (in_tail y z ys h, λ e. d.0 (subst (Contains ys) (e ∙ sym same) h));
        there = λ z h. ⊎_elim (λ e. inl (sym e ∙ same)) (λ later. inr later) (in_cases y z ys h);
      })
      (λ later.
      let w = without f x ys d.1 later in
      record {
        rest = y ∷ w.rest;
        sum = omega (arith, sum_by-cons f y ys, sum_by-cons f y w.rest, w.sum);
        distinct = (λ h. d.0 (w.back y h).0, w.distinct);
        back = λ z h. ⊎_elim (λ e. (subst (Contains (y ∷ ys)) e (in_head y ys), λ is. d.0 (subst (Contains ys) (sym is ∙ sym e) later))) (λ k. (in_tail y z ys (w.back z k).0, (w.back z k).1)) (in_cases y z w.rest h);
        there = λ z h. ⊎_elim (λ e. inr (subst (Contains (y ∷ w.rest)) e (in_head y w.rest))) (λ k. ⊎_elim (λ is. inl is) (λ r. inr (in_tail y z w.rest r)) (w.there z k)) (in_cases y z ys h);
      })
      (in_cases y x ys c)

  sums_of : (f : A → ℕ) (xs ys : List A) → Apart xs → Apart ys → ((x : A) → Contains xs x → Contains ys x) → ((x : A) → Contains ys x → Contains xs x) → sum_by f xs ≡ sum_by f ys
  sums_of f [] [] d e there back = refl
  sums_of f [] (y ∷ ys) d e there back = absurd (in_none y (back y (in_head y ys)))
  sums_of f (x ∷ xs) ys d e there back =
      let w = without f x ys e (there x (in_head x xs)) in
      omega (
        arith,
        sum_by-cons f x xs,
        w.sum,
        sums_of f xs w.rest d.1 w.distinct
            (λ z h. ⊎_elim (λ same. absurd (d.0 (subst (Contains xs) same h))) (λ k. k) (w.there z (there z (in_tail x z xs h))))
            (λ z h. let b = w.back z h in ⊎_elim (λ same. absurd (b.1 (sym same))) (λ k. k) (in_cases x z xs (back z b.0))),
      )

  -- the sums over two lists that contain the same
  pub sums_alike : (f : A → ℕ) (xs ys : List A) → Once xs → Once ys → ((x : A) → Contains xs x → Contains ys x) → ((x : A) → Contains ys x → Contains xs x) → sum_by f xs ≡ sum_by f ys
  sums_alike f xs ys once_x once_y there back = sums_of f xs ys (apart xs once_x) (apart ys once_y) there back

  -- ---- a test that some element passes
  pub any_in : (p : A → Bool) (xs : List A) (x : A) → Contains xs x → p x ≡ true → list_any p xs ≡ true
  any_in p [] x c h = absurd (in_none x c)
  any_in p (y ∷ xs) x c h = ⊎_elim (λ same. let here : p y ≡ true = ap p same ∙ h in rw here refl) (λ later. or_true (p y) (any_in p xs x later h)) (in_cases y x xs c)
    where
      or_true : (b : Bool) {c : Bool} → c ≡ true → (b || c) ≡ true
      or_true true e = refl
      or_true false e = e

  pub in_any : (p : A → Bool) (xs : List A) → list_any p xs ≡ true → (x : A) × Contains xs x × (p x ≡ true)
  in_any p [] h = absurd (let wrong : false ≡ true = h in cc)
  in_any p (x ∷ xs) h = by (p x) refl h (in_any p xs)
    where
      by : (b : Bool) → p x ≡ b → (b || list_any p xs) ≡ true → (list_any p xs ≡ true → (z : A) × Contains xs z × (p z ≡ true)) → (z : A) × Contains (x ∷ xs) z × (p z ≡ true)
      by true e h rest = (x, in_head x xs, e)
      by false e h rest = let r = rest h in (r.0, in_tail x r.0 xs r.1, r.2)

-- ---- a sum over numbered elements, one by one
module _ {A : Type 0} (f : ℕ × A → ℕ) (xs : List A) (k : ℕ) (cost : ℕ) (so_far : cost ≡ sum_by f (take k (enumerate_from 0 xs))) where
  pub numbered_sum : (n new : ℕ) → k < length xs → ((x : A) → slice_get xs k ≡ Some x → n ≡ f (k, x)) → new ≡ cost + n → new ≡ sum_by f (take (k + 1) (enumerate_from 0 xs))
  numbered_sum n new below one sum =
      let x = some_at xs k below in
      let from_zero : 0 + k ≡ k = omega arith in
      let is : get_or (enumerate_from 0 xs) k (k, x.0) ≡ (k, x.0) = get_or-enumerate_from 0 xs k (k, x.0) below ∙ λ i. (from_zero i, get_or_from_slice_get xs k x.0 x.0 x.1 i) in
      omega (arith, so_far, sum, one x.0 x.1, ap f is, sum_by_more f (enumerate_from 0 xs) k (k, x.0) (omega (arith, below, length-enumerate_from 0 xs)))

  pub numbered_whole : length xs ≤ k → cost ≡ sum_by f (enumerate_from 0 xs)
  numbered_whole past = so_far ∙ ap (sum_by f) (take_all k (enumerate_from 0 xs) (omega (arith, past, length-enumerate_from 0 xs)))
