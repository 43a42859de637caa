-- What holds of each item of a list, and of items that are read in turn.
use Rattle.std.proofs.Common.{◌≡◌, ℕ, zero, suc, List, [], ◌∷◌, ◌++◌, Bool, true, false, cond, length, map, drop, Option, Some, refl, ap}
use Rattle.std.specs.List.{AllByRecursion, flat_map, slice_get}
use Rattle.std.specs.Option.{IfSome}
use Rattle.std.specs.Str.{bytes_eq}
use Rattle.pb_names.specs.Names.{look}
use Rattle.pb_names.specs.Turns.{after_turns, turns, turn_faults}
use Rattle.pb_names.specs.declared.fault.Fault.{Fault}

-- where there is nothing in two parts there is nothing in either
pub both : {A : Type 0} {xs ys : List A} {P Q : Type 0} → (xs ≡ [] → P) → (ys ≡ [] → Q) → xs ++ ys ≡ [] → P × Q
both {xs = []} f g e = (f refl, g e)
both {xs = x ∷ xs} f g e = cc

pub all_three : {A : Type 0} {xs ys zs : List A} {P Q R : Type 0} → (xs ≡ [] → P) → (ys ≡ [] → Q) → (zs ≡ [] → R) → xs ++ (ys ++ zs) ≡ [] → P × Q × R
all_three f g h e = let b = both f (both g h) e in (b.0, b.1.0, b.1.1)

module _ {A : Type 0} (P : A → Type 0) where
  pub all_append : (xs ys : List A) → AllByRecursion P xs → AllByRecursion P ys → AllByRecursion P (xs ++ ys)
  all_append [] ys h k = k
  all_append (x ∷ xs) ys h k = (h.0, all_append xs ys h.1 k)

  pub all_push : (xs : List A) (x : A) → AllByRecursion P xs → P x → AllByRecursion P (xs ++ x ∷ [])
  all_push xs x h k = all_append xs (x ∷ []) h (k, tt {0})

  pub all_drop : (n : ℕ) (xs : List A) → AllByRecursion P xs → AllByRecursion P (drop n xs)
  all_drop zero xs h = h
  all_drop (suc n) [] h = h
  all_drop (suc n) (x ∷ xs) h = all_drop n xs h.1

  pub all_same : (Q : A → Type 0) → ((x : A) → P x → Q x) → (xs : List A) → AllByRecursion P xs → AllByRecursion Q xs
  all_same Q f [] h = tt {0}
  all_same Q f (x ∷ xs) h = (f x h.0, all_same Q f xs h.1)

  pub all_at : (xs : List A) (k : ℕ) → AllByRecursion P xs → IfSome (slice_get xs k) P
  all_at [] k h = tt {0}
  all_at (x ∷ xs) zero h = h.0
  all_at (x ∷ xs) (suc k) h = all_at xs k h.1

-- what is made of each item
module _ {A B : Type 0} (f : A → B) (W : A → Type 0) (P : B → Type 0) where
  pub all_mapped : ((x : A) → W x → P (f x)) → (xs : List A) → AllByRecursion W xs → AllByRecursion P (map f xs)
  all_mapped h [] w = tt {0}
  all_mapped h (x ∷ xs) w = (h x w.0, all_mapped h xs w.1)

  pub within_mapped : (faults : A → List Fault) → ((x : A) → W x → faults x ≡ [] → P (f x)) → (xs : List A) → AllByRecursion W xs → flat_map faults xs ≡ []
      → AllByRecursion P (map f xs)
  within_mapped faults h [] w e = tt {0}
  within_mapped faults h (x ∷ xs) w e = both (h x w.0) (within_mapped faults h xs w.1) e

pub clean_mapped : {A B : Type 0} (f : A → B) (P : B → Type 0) (faults : A → List Fault) → ((x : A) → faults x ≡ [] → P (f x)) → (xs : List A)
    → flat_map faults xs ≡ [] → AllByRecursion P (map f xs)
clean_mapped f P faults h [] e = tt {0}
clean_mapped f P faults h (x ∷ xs) e = both (h x) (clean_mapped f P faults h xs) e

-- items in turn: what is seen where so many are left fits
module _ {S A B : Type 0} (next : S → A → S) (made : S → A → B) (faults : S → A → List Fault) (Fits : ℕ → S → Type 0) (W : A → Type 0) (P : B → Type 0)
    (step : (n : ℕ) (s : S) (x : A) → Fits (suc n) s → W x → faults s x ≡ [] → P (made s x) × Fits n (next s x)) where
  pub turns_fit : (s : S) (xs : List A) → Fits (length xs) s → AllByRecursion W xs → turn_faults next faults s xs ≡ []
      → AllByRecursion P (turns next made s xs) × Fits 0 (after_turns next s xs)
  turns_fit s [] h w e = (tt {0}, h)
  turns_fit s (x ∷ xs) h w e =
      let parts = both (λ d. d) (λ d. d) e in
      let here = step (length xs) s x h w.0 parts.0 in
      let rest = turns_fit (next s x) xs here.1 w.1 parts.1 in
      ((here.0, rest.0), rest.1)

module _ {S A : Type 0} (next : S → A → S) where
  pub turns_length : {B : Type 0} (made : S → A → B) (s : S) (xs : List A) → length (turns next made s xs) ≡ length xs
  turns_length made s [] = refl
  turns_length made s (x ∷ xs) = ap suc (turns_length made (next s x) xs)

  -- what is made of each where nothing that is seen counts
  pub turns_map : {B : Type 0} (f : A → B) (s : S) (xs : List A) → turns next (λ s x. f x) s xs ≡ map f xs
  turns_map f s [] = refl
  turns_map f s (x ∷ xs) = ap (λ l. f x ∷ l) (turns_map f (next s x) xs)

  pub after_append : (s : S) (xs ys : List A) → after_turns next s (xs ++ ys) ≡ after_turns next (after_turns next s xs) ys
  after_append s [] ys = refl
  after_append s (x ∷ xs) ys = after_append (next s x) xs ys

-- a name that is found is one of the names
found_by : {V : Type 0} (P : V → Type 0) (b : Bool) (v : V) (rest : Option V) → P v → IfSome rest P → IfSome (cond b (Some v) rest) P
found_by P true v rest here others = here
found_by P false v rest here others = others

pub found_fits : {V : Type 0} (P : V → Type 0) (n : List ℕ) (names : List (List ℕ × V)) → AllByRecursion (λ e. P e.1) names → IfSome (look n names) P
found_fits P n [] h = tt {0}
found_fits P n (e ∷ names) h = found_by P (bytes_eq n e.0) e.1 (look n names) h.0 (found_fits P n names h.1)
