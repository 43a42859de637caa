-- Lists that are made number by number, and how long they are.
use Rattle.std.proofs.Common.{◌≡◌, ◌∙◌, refl, sym, inl, inr, ◌⊎◌, ℕ, ◌+◌, ◌≤◌, ◌<◌, Bool, true, false, List, [], ◌∷◌, length, map, filter, arith}
use Rattle.std.specs.List.{AllByRecursion, Contains, enumerate_from, flat_map}
use Rattle.std.proofs.lemmas.List.{append-nil}
use Rattle.pb_base.proofs.ListLemmas.{in_head, in_tail}
use Rattle.pb_frame.specs.Frames.{greatest}

-- what is so of each member
pub each_in : {A : Type 0} (P : A → Type 0) (xs : List A) → ((x : A) → Contains xs x → P x) → AllByRecursion P xs
each_in P [] each = tt
each_in P (x ∷ xs) each = (each x (in_head x xs), each_in P xs (λ y has. each y (in_tail x y xs has)))

-- nothing passes a test that is never passed
pub none_kept : {A : Type 0} (p : A → Bool) (xs : List A) → ((x : A) → p x ≡ false) → filter p xs ≡ []
none_kept p [] never = refl
none_kept p (x ∷ xs) never = rw (never x) (none_kept p xs never)

pub kept_fewer : {A : Type 0} (p : A → Bool) (xs : List A) → length (filter p xs) ≤ length xs
kept_fewer p [] = omega arith
kept_fewer p (x ∷ xs) = by (p x) refl (kept_fewer p xs)
  where
    by : (b : Bool) → p x ≡ b → length (filter p xs) ≤ length xs → length (filter p (x ∷ xs)) ≤ length (x ∷ xs)
    by true e rest = rw e (omega (arith, rest))
    by false e rest = rw e (omega (arith, rest))

-- of lists that are made of numbered items, one at most isn't empty
module _ {A B : Type 0} (f : ℕ × A → List B) (apart : (l m : ℕ × A) → l.0 < m.0 → (f l ≡ []) ⊎ (f m ≡ [])) where
  none_after : (l : ℕ × A) (y : B) (ys : List B) → f l ≡ y ∷ ys → (xs : List A) (j : ℕ) → l.0 < j → flat_map f (enumerate_from j xs) ≡ []
  none_after l y ys e [] j above = refl
  none_after l y ys e (x ∷ xs) j above =
      elim (apart l (j, x) above) [
        | inl none ↦ absurd (let both : y ∷ ys ≡ [] = sym e ∙ none in cc)
        | inr none ↦ rw none (none_after l y ys e xs (j + 1) (omega (arith, above)))
      ]

  pub only_one : (bound : ℕ) → ((l : ℕ × A) → length (f l) ≤ bound) → (xs : List A) (k : ℕ) → length (flat_map f (enumerate_from k xs)) ≤ bound
  only_one bound each [] k = omega arith
  only_one bound each (x ∷ xs) k = by (f (k, x)) refl (only_one bound each xs (k + 1))
    where
      by : (l : List B) → f (k, x) ≡ l → length (flat_map f (enumerate_from (k + 1) xs)) ≤ bound → length (flat_map f (enumerate_from k (x ∷ xs))) ≤ bound
      by [] e later = rw e later
      by (y ∷ ys) e later = let rest = none_after (k, x) y ys e xs (k + 1) (omega arith) in rw (rest, append-nil (f (k, x))) (each (k, x))

pub greatest_most : {A : Type 0} (f : A → ℕ) (most : ℕ) (xs : List A) → ((x : A) → Contains xs x → f x ≤ most) → greatest (map f xs) ≤ most
greatest_most f most [] each = omega arith
greatest_most f most (x ∷ xs) each = omega (arith, each x (in_head x xs), greatest_most f most xs (λ y has. each y (in_tail x y xs has)))
