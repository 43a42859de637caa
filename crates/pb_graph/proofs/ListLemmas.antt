-- Lists that are made of others, and tests of all their elements.
use Rattle.std.proofs.Common.{◌≡◌, ◌∙◌, refl, sym, ap, ℕ, ◌+◌, ◌<◌, Bool, true, false, ◌&&◌, ◌||◌, not, List, [], ◌∷◌, ◌++◌, length, map, take, get_or}
use Rattle.std.specs.Prelude.{filter}
use Rattle.std.specs.List.{flat_map, list_all, list_any}
use Rattle.std.proofs.Math.Bool.{cond}
use Rattle.std.proofs.lemmas.List.{take_more}

pub and_true : (b : Bool) → (b && true) ≡ b
and_true true = refl
and_true false = refl

pub all_last : {A : Type 0} (p : A → Bool) (xs : List A) (x : A) → list_all p (xs ++ x ∷ []) ≡ (list_all p xs && p x)
all_last p [] x = and_true (p x)
all_last p (y ∷ ys) x = by_test (p y) (all_last p ys x)
  where
    by_test : (b : Bool) → list_all p (ys ++ x ∷ []) ≡ (list_all p ys && p x) → (b && list_all p (ys ++ x ∷ [])) ≡ ((b && list_all p ys) && p x)
    by_test true e = e
    by_test false e = refl

-- a test of all with one more
pub all_more : {A : Type 0} (p : A → Bool) (xs : List A) (i : ℕ) (d : A) → i < length xs → list_all p (take (i + 1) xs) ≡ (list_all p (take i xs) && p (get_or xs i d))
all_more p xs i d here = ap (list_all p) (take_more xs i d here) ∙ all_last p (take i xs) (get_or xs i d)

pub and_assoc : (a b c : Bool) → ((a && b) && c) ≡ (a && (b && c))
and_assoc true b c = refl
and_assoc false b c = refl

pub all_append : {A : Type 0} (p : A → Bool) (xs ys : List A) → list_all p (xs ++ ys) ≡ (list_all p xs && list_all p ys)
all_append p [] ys = refl
all_append p (x ∷ xs) ys = ap (λ b. p x && b) (all_append p xs ys) ∙ sym (and_assoc (p x) (list_all p xs) (list_all p ys))

pub all_flat : {A B : Type 0} (p : B → Bool) (f : A → List B) (xs : List A) → list_all p (flat_map f xs) ≡ list_all (λ x. list_all p (f x)) xs
all_flat p f [] = refl
all_flat p f (x ∷ xs) = all_append p (f x) (flat_map f xs) ∙ ap (λ b. list_all p (f x) && b) (all_flat p f xs)

pub all_kept : {A : Type 0} (p q : A → Bool) (xs : List A) → list_all p (filter q xs) ≡ list_all (λ x. not (q x) || p x) xs
all_kept p q [] = refl
all_kept p q (x ∷ xs) = step (q x) (list_all p (filter q xs)) _ (all_kept p q xs) refl
  where
    step : (b : Bool) (l r : Bool) → l ≡ r → list_all p (filter q xs) ≡ l → list_all p (cond b (x ∷ filter q xs) (filter q xs)) ≡ ((not b || p x) && r)
    step true l r e is = ap (λ t. p x && t) (is ∙ e)
    step false l r e is = is ∙ e

pub all_like : {A : Type 0} (p q : A → Bool) → ((x : A) → p x ≡ q x) → (xs : List A) → list_all p xs ≡ list_all q xs
all_like p q same [] = refl
all_like p q same (x ∷ xs) = rw (same x, all_like p q same xs) refl

pub or_all : {A : Type 0} (b : Bool) (p : A → Bool) (xs : List A) → (b || list_all p xs) ≡ list_all (λ x. b || p x) xs
or_all true p [] = refl
or_all false p [] = refl
or_all true p (x ∷ xs) = or_all true p xs
or_all false p (x ∷ xs) = ap (λ r. p x && r) (or_all false p xs)

pub all_mapped : {A B : Type 0} (f : A → B) (p : B → Bool) (q : A → Bool) → ((x : A) → p (f x) ≡ q x) → (xs : List A) → list_all p (map f xs) ≡ list_all q xs
all_mapped f p q same [] = refl
all_mapped f p q same (x ∷ xs) = rw (same x, all_mapped f p q same xs) refl

pub any_mapped : {A B : Type 0} (f : A → B) (p : B → Bool) (q : A → Bool) → ((x : A) → p (f x) ≡ q x) → (xs : List A) → list_any p (map f xs) ≡ list_any q xs
any_mapped f p q same [] = refl
any_mapped f p q same (x ∷ xs) = rw (same x, any_mapped f p q same xs) refl

pub map_filtered : {A B : Type 0} (f : A → B) (p : A → Bool) (x : A) (xs : List A) (b : Bool) → map f (cond b (x ∷ filter p xs) (filter p xs)) ≡ cond b (f x ∷ map f (filter p xs)) (map f (filter p xs))
map_filtered f p x xs true = refl
map_filtered f p x xs false = refl

pub same_map : {A B : Type 0} (f g : A → B) → ((x : A) → f x ≡ g x) → (xs : List A) → map f xs ≡ map g xs
same_map f g same [] = refl
same_map f g same (x ∷ xs) = rw (same x, same_map f g same xs) refl

pub flat_like : {A B : Type 0} (f g : A → List B) → ((x : A) → f x ≡ g x) → (xs : List A) → flat_map f xs ≡ flat_map g xs
flat_like f g same [] = refl
flat_like f g same (x ∷ xs) = rw (same x, flat_like f g same xs) refl
