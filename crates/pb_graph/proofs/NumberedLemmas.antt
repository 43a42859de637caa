-- Numbers below another, and elements with their numbers, one more at a time.
use Rattle.std.proofs.Common.{◌≡◌, ◌∙◌, refl, sym, ap, ℕ, zero, suc, ◌+◌, ◌<◌, ◌≤◌, Bool, true, false, List, [], ◌∷◌, ◌++◌, length, map, take, get_or, slice_get, Some, None, append_assoc, arith}
use Rattle.std.specs.Prelude.{filter}
use Rattle.std.specs.List.{enumerate_from, flat_map, range_with_len}
use Rattle.std.proofs.Math.Bool.{cond}
use Rattle.std.proofs.lemmas.Grind.{flat_map-append}
use Rattle.std.proofs.lemmas.List.{append-nil, map-append, take_all}
use Rattle.std.proofs.lemmas.List.FromFn.{length-enumerate_from}
use Rattle.std.proofs.lemmas.List.Elements.{filter-append}
use Rattle.std.proofs.lemmas.Option.{slice_get-get_or}

range_more : (a n : ℕ) → range_with_len a (n + 1) ≡ range_with_len a n ++ (a + n) ∷ []
range_more a zero = let e : a + 0 ≡ a = omega arith in rw e refl
range_more a (suc n) =
    let e : a + 1 + n ≡ a + suc n = omega arith in
    let next : suc n + 1 ≡ suc (n + 1) = omega arith in
    rw next (ap (λ l. a ∷ l) (range_more (a + 1) n ∙ ap (λ k. range_with_len (a + 1) n ++ k ∷ []) e))

-- one more element that may be kept
module _ {A B : Type 0} (f : A → B) (p : A → Bool) (xs ys : List A) (x : A) (is : ys ≡ xs ++ x ∷ []) where
  one_more : (b : Bool) → p x ≡ b → map f (filter p ys) ≡ map f (filter p xs) ++ cond b (f x ∷ []) []
  one_more b e =
      ap (λ l. map f (filter p l)) is ∙ ap (map f) (filter-append p xs (x ∷ [])) ∙ map-append f (filter p xs) (filter p (x ∷ [])) ∙ ap (λ (t : Bool). map f (filter p xs) ++ map f (cond t (x ∷ []) [])) e ∙ last b
    where
      last : (b : Bool) → map f (filter p xs) ++ map f (cond b (x ∷ []) []) ≡ map f (filter p xs) ++ cond b (f x ∷ []) []
      last true = refl
      last false = refl

  one_kept : (old l m : List B) → l ≡ old ++ map f (filter p xs) → p x ≡ true → m ≡ l ++ f x ∷ [] → m ≡ old ++ map f (filter p ys)
  one_kept old l m inv e pushed = pushed ∙ ap (λ z. z ++ f x ∷ []) inv ∙ append_assoc old (map f (filter p xs)) (f x ∷ []) ∙ ap (λ z. old ++ z) (sym (one_more true e))

  one_dropped : (old l : List B) → l ≡ old ++ map f (filter p xs) → p x ≡ false → l ≡ old ++ map f (filter p ys)
  one_dropped old l inv e = inv ∙ ap (λ z. old ++ z) (sym (append-nil (map f (filter p xs))) ∙ sym (one_more false e))

pub range_next : (k : ℕ) → range_with_len 0 (k + 1) ≡ range_with_len 0 k ++ k ∷ []
range_next k = let here : 0 + k ≡ k = omega arith in range_more 0 k ∙ ap (λ n. range_with_len 0 k ++ n ∷ []) here

-- numbers below another, and elements with their numbers
module _ {A B : Type 0} (p : ℕ → Bool) (f : ℕ → B) (q : ℕ × A → Bool) (g : ℕ × A → B) where
  pub same_numbered : (s : ℕ) (xs : List A) → ((k : ℕ) (x : A) → slice_get xs k ≡ Some x → (p (s + k) ≡ q (s + k, x)) × (f (s + k) ≡ g (s + k, x))) → map f (filter p (range_with_len s (length xs))) ≡ map g (filter q (enumerate_from s xs))
  same_numbered s [] each = refl
  same_numbered s (x ∷ xs) each =
      let here : s + 0 ≡ s = omega arith in
      let first = rw here at (each 0 x refl) in
      let rest = same_numbered (s + 1) xs (λ k y at. let e : s + 1 + k ≡ s + suc k = omega arith in rw e (each (suc k) y at)) in
      by_test (p s) refl first.0 first.1 rest
    where
      by_test : (b : Bool) → p s ≡ b → p s ≡ q (s, x) → f s ≡ g (s, x) → map f (filter p (range_with_len (s + 1) (length xs))) ≡ map g (filter q (enumerate_from (s + 1) xs)) → map f (filter p (s ∷ range_with_len (s + 1) (length xs))) ≡ map g (filter q ((s, x) ∷ enumerate_from (s + 1) xs))
      by_test true e same made rest = rw (e, sym same ∙ e, made) (ap (λ l. g (s, x) ∷ l) rest)
      by_test false e same made rest = rw (e, sym same ∙ e) rest

-- one more reader
numbered_more : {A : Type 0} (s : ℕ) (xs : List A) (k : ℕ) (x : A) → slice_get xs k ≡ Some x → take (k + 1) (enumerate_from s xs) ≡ take k (enumerate_from s xs) ++ (s + k, x) ∷ []
numbered_more s [] k x e = absurd (let none : None ≡ Some x = e in cc)
numbered_more s (y ∷ ys) zero x e = let some : Some y ≡ Some x = e in let same : y ≡ x = cc in let here : s + 0 ≡ s = omega arith in rw (here, same) refl
numbered_more s (y ∷ ys) (suc k) x e =
    let next : suc k + 1 ≡ suc (k + 1) = omega arith in
    let here : s + 1 + k ≡ s + suc k = omega arith in
    rw (next, ← here) (ap (λ l. (s, y) ∷ l) (numbered_more (s + 1) ys k x e))

numbered_next : {A : Type 0} (xs : List A) (k : ℕ) (x : A) → slice_get xs k ≡ Some x → take (k + 1) (enumerate_from 0 xs) ≡ take k (enumerate_from 0 xs) ++ (k, x) ∷ []
numbered_next xs k x at = let here : 0 + k ≡ k = omega arith in rw here at (numbered_more 0 xs k x at)

module _ {A B : Type 0} (f : ℕ × A → B) (p : ℕ × A → Bool) (xs : List A) (k : ℕ) (l : List B) (inv : l ≡ map f (filter p (take k (enumerate_from 0 xs)))) where
  pub numbered_kept : (x : A) (m : List B) → slice_get xs k ≡ Some x → p (k, x) ≡ true → m ≡ l ++ f (k, x) ∷ [] → m ≡ map f (filter p (take (k + 1) (enumerate_from 0 xs)))
  numbered_kept x m at = one_kept f p (take k (enumerate_from 0 xs)) (take (k + 1) (enumerate_from 0 xs)) (k, x) (numbered_next xs k x at) [] l m inv

  pub numbered_dropped : (x : A) → slice_get xs k ≡ Some x → p (k, x) ≡ false → l ≡ map f (filter p (take (k + 1) (enumerate_from 0 xs)))
  numbered_dropped x at = one_dropped f p (take k (enumerate_from 0 xs)) (take (k + 1) (enumerate_from 0 xs)) (k, x) (numbered_next xs k x at) [] l inv

  pub numbered_end : length xs ≤ k → l ≡ map f (filter p (enumerate_from 0 xs))
  numbered_end over = inv ∙ ap (λ z. map f (filter p z)) (take_all k (enumerate_from 0 xs) (omega (arith, length-enumerate_from 0 xs)))

pub flat_more : {A B : Type 0} (f : ℕ × A → List B) (xs : List A) (k : ℕ) (x : A) (l m more : List B) → slice_get xs k ≡ Some x → l ≡ flat_map f (take k (enumerate_from 0 xs)) → m ≡ l ++ more → more ≡ f (k, x) → m ≡ flat_map f (take (k + 1) (enumerate_from 0 xs))
flat_more f xs k x l m more at inv pushed made =
    pushed ∙ ap (λ z. z ++ more) inv ∙ ap (λ z. flat_map f (take k (enumerate_from 0 xs)) ++ z) (made ∙ sym (append-nil (f (k, x)))) ∙ sym (ap (flat_map f) (numbered_next xs k x at) ∙ flat_map-append f (take k (enumerate_from 0 xs)) ((k, x) ∷ []))

pub flat_end : {A B : Type 0} (f : ℕ × A → List B) (xs : List A) (k : ℕ) (l : List B) → length xs ≤ k → l ≡ flat_map f (take k (enumerate_from 0 xs)) → l ≡ flat_map f (enumerate_from 0 xs)
flat_end f xs k l over inv = inv ∙ ap (flat_map f) (take_all k (enumerate_from 0 xs) (omega (arith, length-enumerate_from 0 xs)))

pub at_index : {A : Type 0} (xs : List A) (k : ℕ) (x : A) → k < length xs → x ≡ get_or xs k x → slice_get xs k ≡ Some x
at_index xs k x below is = slice_get-get_or xs k x below ∙ ap Some (sym is)

module _ {A B : Type 0} (f : ℕ × A → B) (xs : List A) (k : ℕ) (l : List B) (inv : l ≡ map f (take k (enumerate_from 0 xs))) where
  pub map_next : (x : A) (m : List B) (y : B) → slice_get xs k ≡ Some x → m ≡ l ++ y ∷ [] → y ≡ f (k, x) → m ≡ map f (take (k + 1) (enumerate_from 0 xs))
  map_next x m y at pushed made =
      pushed ∙ ap (λ z. z ++ y ∷ []) inv ∙ ap (λ z. map f (take k (enumerate_from 0 xs)) ++ z ∷ []) made
      ∙ sym (ap (map f) (numbered_next xs k x at) ∙ map-append f (take k (enumerate_from 0 xs)) ((k, x) ∷ []))

  pub map_end : length xs ≤ k → l ≡ map f (enumerate_from 0 xs)
  map_end over = inv ∙ ap (map f) (take_all k (enumerate_from 0 xs) (omega (arith, length-enumerate_from 0 xs)))
