-- Sums in which nothing may be missing.
use Rattle.std.proofs.Common.{◌≡◌, ◌∙◌, refl, sym, ap, ℕ, zero, suc, ◌+◌, ◌<◌, ◌≤◌, List, [], ◌∷◌, ◌++◌, length, map, replicate, take, get_or, Option, Some, None, arith}
use Rattle.std.specs.List.{range_with_len}
use Rattle.std.proofs.lemmas.List.{map_more, take_all}
use Rattle.pb_cost.specs.Calls.{plus, total}

pub plus_none : (a : Option ℕ) → plus a None ≡ None
plus_none None = refl
plus_none (Some a) = refl

plus_zero : (a : Option ℕ) → plus a (Some 0) ≡ a
plus_zero None = refl
plus_zero (Some a) = ap Some (omega arith)

plus_nested : (a b c : Option ℕ) → plus (plus a b) c ≡ plus a (plus b c)
plus_nested None b c = refl
plus_nested (Some a) None c = refl
plus_nested (Some a) (Some b) None = refl
plus_nested (Some a) (Some b) (Some c) = ap Some (omega arith)

total_push : (xs : List (Option ℕ)) (x : Option ℕ) → total (xs ++ x ∷ []) ≡ plus (total xs) x
total_push [] None = refl
total_push [] (Some x) = ap Some (omega arith)
total_push (y ∷ xs) x = ap (plus y) (total_push xs x) ∙ sym (plus_nested y (total xs) x)

module _ {A : Type 0} (own : ℕ) (f : A → Option ℕ) (xs : List A) where
  -- with the first of them
  abbrev pub so_far : ℕ → Option ℕ
  so_far i = plus (Some own) (total (map f (take i xs)))

  pub first_none : Some own ≡ so_far 0
  first_none = ap Some (omega arith)

  pub one_more : (i : ℕ) (d : A) → i < length xs → so_far (i + 1) ≡ plus (so_far i) (f (get_or xs i d))
  one_more i d below = ap (λ l. plus (Some own) (total l)) (map_more f xs i d below) ∙ ap (plus (Some own)) (total_push (map f (take i xs)) (f (get_or xs i d))) ∙ sym (plus_nested (Some own) (total (map f (take i xs))) (f (get_or xs i d)))

  pub all_of_them : (i : ℕ) → length xs ≤ i → so_far i ≡ plus (Some own) (total (map f xs))
  all_of_them i past = ap (λ l. plus (Some own) (total (map f l))) (take_all i xs past)

-- where one is missing nothing is left
missing : {A : Type 0} (f : A → Option ℕ) (xs : List A) (i : ℕ) (d : A) → i < length xs → f (get_or xs i d) ≡ None → total (map f xs) ≡ None
missing f [] i d below none = absurd (omega (arith, below))
missing f (x ∷ xs) zero d below none = ap (λ o. plus o (total (map f xs))) none
missing f (x ∷ xs) (suc i) d below none = ap (plus (f x)) (missing f xs i d (omega (arith, below)) none) ∙ plus_none (f x)

pub none_left : {A : Type 0} (own : ℕ) (f : A → Option ℕ) (xs : List A) (i : ℕ) (d : A) → i < length xs → f (get_or xs i d) ≡ None → plus (Some own) (total (map f xs)) ≡ None
none_left own f xs i d below none = ap (plus (Some own)) (missing f xs i d below none)

-- ---- the same number, so many times
pub same_each : {A : Type 0} (x : A) (a n : ℕ) → map (λ (k : ℕ). x) (range_with_len a n) ≡ replicate n x
same_each x a zero = refl
same_each x a (suc n) = ap (λ l. x ∷ l) (same_each x (a + 1) n)
