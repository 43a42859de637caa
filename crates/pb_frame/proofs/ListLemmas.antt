-- Lists that are made from the numbers below another, and one number more.
use Rattle.std.proofs.Common.{inl, inr, ◌⊎◌, ◌≤◌, not, ◌≡◌, ◌∙◌, refl, sym, ap, ℕ, zero, suc, ◌+◌, ◌<◌, get_or, length, slice_get, Some, take, take_all, arith, Bool, true, false, List, [], ◌∷◌, ◌++◌, map}
use Rattle.std.specs.Prelude.{◌==◌, Err, Ok, OnOk, Result, filter, if◌then◌else◌}
use Rattle.std.specs.List.{Contains, enumerate_from, flat_map, range_with_len}
use Rattle.std.proofs.Math.Bool.{cond}
use Rattle.std.proofs.Math.Seq.{take-suc}
use Rattle.std.proofs.lemmas.List.{map-append}
use Rattle.std.proofs.lemmas.Bool.{eqb-true}
use Rattle.std.proofs.lemmas.List.FromFn.{length-enumerate_from}
use Rattle.pb_base.proofs.ListLemmas.{in_cases, in_filter, in_none}
use Rattle.pb_graph.proofs.NumberedLemmas.{flat_more, numbered_dropped, numbered_kept, range_next}

pub filter-append : {A : Type 0} (p : A → Bool) (xs : List A) (x : A) → filter p (xs ++ x ∷ []) ≡ filter p xs ++ (if p x then x ∷ [] else [])
filter-append p [] x = refl
filter-append p (y ∷ xs) x = by (p y) (filter-append p xs x)
  where
    by : (b : Bool) → filter p (xs ++ x ∷ []) ≡ filter p xs ++ (if p x then x ∷ [] else []) → cond b (y ∷ filter p (xs ++ x ∷ [])) (filter p (xs ++ x ∷ [])) ≡ cond b (y ∷ filter p xs) (filter p xs) ++ (if p x then x ∷ [] else [])
    by true e = ap (λ l. y ∷ l) e
    by false e = e

-- an element that is there is the same whatever stands for one that isn't
pub at_get : {A : Type 0} (xs : List A) (k : ℕ) (a b : A) → k < length xs → get_or xs k a ≡ get_or xs k b
at_get [] k a b below = absurd (omega (arith, below))
at_get (x ∷ xs) zero a b below = refl
at_get (x ∷ xs) (suc k) a b below = at_get xs k a b (omega (arith, below))

pub taken : {A : Type 0} (xs : List A) (k : ℕ) (d : A) → k < length xs → take (k + 1) xs ≡ take k xs ++ get_or xs k d ∷ []
taken xs k d below = (let e : k + 1 ≡ suc k = omega arith in ap (λ n. take n xs) e) ∙ take-suc xs k d below

-- the next of some numbered elements, if it passes a test
pub numbered_if : {A B : Type 0} (f : ℕ × A → B) (p : ℕ × A → Bool) (xs : List A) (k : ℕ) (x : A) (l m : List B) → slice_get xs k ≡ Some x → l ≡ map f (filter p (take k (enumerate_from 0 xs)))
    → m ≡ l ++ (if p (k, x) then f (k, x) ∷ [] else []) → m ≡ map f (filter p (take (k + 1) (enumerate_from 0 xs)))
numbered_if {B = B} f p xs k x l m there before more = by (p (k, x)) refl
  where
    append-nil : (ys : List B) → ys ++ [] ≡ ys
    append-nil [] = refl
    append-nil (y ∷ ys) = ap (λ zs. y ∷ zs) (append-nil ys)

    by : (b : Bool) → p (k, x) ≡ b → m ≡ map f (filter p (take (k + 1) (enumerate_from 0 xs)))
    by true e = numbered_kept f p xs k l before x m there e (more ∙ ap (λ c. l ++ (if c then f (k, x) ∷ [] else [])) e)
    by false e = more ∙ ap (λ c. l ++ (if c then f (k, x) ∷ [] else [])) e ∙ append-nil l ∙ numbered_dropped f p xs k l before x there e

pub filter_next : (p : ℕ → Bool) (k : ℕ) (b : Bool) (old new : List ℕ) → old ≡ filter p (range_with_len 0 k) → b ≡ p k → new ≡ old ++ (if b then k ∷ [] else []) → new ≡ filter p (range_with_len 0 (k + 1))
filter_next p k b old new before same more =
    more ∙ ap (λ l. l ++ (if b then k ∷ [] else [])) before ∙ ap (λ c. filter p (range_with_len 0 k) ++ (if c then k ∷ [] else [])) same
    ∙ sym (ap (filter p) (range_next k) ∙ filter-append p (range_with_len 0 k) k)

pub map_next : {A : Type 0} (f : ℕ → A) (k : ℕ) (old new : List A) → old ≡ map f (range_with_len 0 k) → new ≡ old ++ f k ∷ [] → new ≡ map f (range_with_len 0 (k + 1))
map_next f k old new before more = more ∙ ap (λ l. l ++ f k ∷ []) before ∙ sym (ap (map f) (range_next k) ∙ map-append f (range_with_len 0 k) (k ∷ []))

-- ---- what follows from an answer that is no error
pub on_ok : {T E P Q : Type 0} (r : Result T E) → OnOk r P → (P → Q) → OnOk r Q
on_ok (Ok a) h f = f h
on_ok (Err e) h f = tt

-- ---- lists that are added one after another to one that is there
pub append-assoc : {A : Type 0} (xs ys zs : List A) → (xs ++ ys) ++ zs ≡ xs ++ (ys ++ zs)
append-assoc [] ys zs = refl
append-assoc (x ∷ xs) ys zs = ap (λ l. x ∷ l) (append-assoc xs ys zs)

pub flat_after : {A B : Type 0} (f : ℕ × A → List B) (xs : List A) (k : ℕ) (x : A) (before old new more : List B) → slice_get xs k ≡ Some x → old ≡ before ++ flat_map f (take k (enumerate_from 0 xs)) → new ≡ old ++ more → more ≡ f (k, x)
    → new ≡ before ++ flat_map f (take (k + 1) (enumerate_from 0 xs))
flat_after f xs k x before old new more there h e made =
    e ∙ ap (λ l. l ++ more) h ∙ append-assoc before (flat_map f (take k (enumerate_from 0 xs))) more
    ∙ ap (λ l. before ++ l) (flat_more f xs k x (flat_map f (take k (enumerate_from 0 xs))) (flat_map f (take k (enumerate_from 0 xs)) ++ more) more there refl refl made)

pub flat_all : {A B : Type 0} (f : ℕ × A → List B) (xs : List A) (k : ℕ) (before new : List B) → length xs ≤ k → new ≡ before ++ flat_map f (take k (enumerate_from 0 xs)) → new ≡ before ++ flat_map f (enumerate_from 0 xs)
flat_all f xs k before new end h = h ∙ ap (λ l. before ++ flat_map f l) (take_all k (enumerate_from 0 xs) (omega (arith, length-enumerate_from 0 xs, end)))

-- ---- a list that has all numbers below another is as long
fewer : (k : ℕ) (xs : List ℕ) → length (filter (λ x. not (x == k)) xs) ≤ length xs
fewer k [] = omega arith
fewer k (x ∷ xs) = by (x == k) (fewer k xs)
  where
    by : (b : Bool) → length (filter (λ x. not (x == k)) xs) ≤ length xs → length (if not b then x ∷ filter (λ x. not (x == k)) xs else filter (λ x. not (x == k)) xs) ≤ suc (length xs)
    by true h = omega (arith, h)
    by false h = omega (arith, h)

shorter : (k : ℕ) (xs : List ℕ) → Contains xs k → length (filter (λ x. not (x == k)) xs) < length xs
shorter k [] h = absurd (in_none k h)
shorter k (x ∷ xs) h = by (x == k) refl (in_cases x k xs h) (shorter k xs)
  where
    by : (b : Bool) → (x == k) ≡ b → (x ≡ k) ⊎ Contains xs k → (Contains xs k → length (filter (λ x. not (x == k)) xs) < length xs) → length (if not b then x ∷ filter (λ x. not (x == k)) xs else filter (λ x. not (x == k)) xs) < suc (length xs)
    by true e c rest = omega (arith, fewer k xs)
    by false e (inl same) rest = absurd (grind arith)
    by false e (inr later) rest = omega (arith, rest later)

pub as_long : (n : ℕ) (xs : List ℕ) → ((p : ℕ) → p < n → Contains xs p) → n ≤ length xs
as_long zero xs all = omega arith
as_long (suc k) xs all =
    let rest = as_long k (filter (λ x. not (x == k)) xs) (λ p below. in_filter (λ x. not (x == k)) xs p (all p (omega (arith, below))) (other p below)) in
    omega (arith, rest, shorter k xs (all k (omega arith)))
  where
    other : (p : ℕ) → p < k → not (p == k) ≡ true
    other p below = by (p == k) refl
      where
        by : (b : Bool) → (p == k) ≡ b → not b ≡ true
        by true e = absurd (omega (arith, below, eqb-true p k e))
        by false e = refl

pub from_empty : {A : Type 0} (empty more all : List A) → empty ≡ [] → all ≡ empty ++ more → all ≡ more
from_empty empty more all none is = is ∙ ap (λ l. l ++ more) none
