-- Places of views and outputs.
use Rattle.std.proofs.Common.{◌≡◌, ◌∙◌, refl, sym, ap, ℕ, zero, suc, ◌+◌, ◌*◌, ◌<◌, ◌≤◌, ℤ, true, false, Bool, List, [], ◌∷◌, ◌++◌, length, map, get_or, IsTrue, subst, arith}
use Rattle.std.specs.Prelude.{◌&&◌, ◌==◌, nat_le}
use Rattle.std.specs.List.{flat_map, range_with_len}
use Rattle.std.proofs.Math.Nat.{mul-le-mul_left}
use Rattle.std.proofs.lemmas.Bool.Decides.{nat_tests}
use Rattle.std.proofs.lemmas.List.{map-append}
use Rattle.pb_statements.specs.Places.{row_of, rows_of}
use Rattle.pb_statements.specs.Spots.{are_laid}
use Rattle.pb_statements.specs.declared.spot.Spot.{Spot}

-- a place inside stands before the end
pub place_below : (first x y w h n : ℕ) → x < w → y < h → first + h * w ≤ n → first + (y * w + x) < n
place_below first x y w h n across down room = omega (arith, mul-le-mul_left w down)

pub place_small : (first x y w h n : ℕ) → x < w → y < h → first + h * w ≤ n → y * w + x < n
place_small first x y w h n across down room = omega (arith, mul-le-mul_left w down)

-- ---- lists of ranges
pub map_like : {A : Type 0} (f g : ℕ → A) (k n : ℕ) → ((i : ℕ) → i < k + n → f i ≡ g i) → map f (range_with_len k n) ≡ map g (range_with_len k n)
map_like f g k zero same = refl
map_like f g k (suc n) same = rw (same k (omega arith), map_like f g (k + 1) n (λ i h. same i (omega (arith, h)))) refl

flat_like : {A : Type 0} (f g : ℕ → List A) (k n : ℕ) → ((i : ℕ) → i < k + n → f i ≡ g i) → flat_map f (range_with_len k n) ≡ flat_map g (range_with_len k n)
flat_like f g k zero same = refl
flat_like f g k (suc n) same = rw (same k (omega arith), flat_like f g (k + 1) n (λ i h. same i (omega (arith, h)))) refl

-- rows of the same numbers
pub rows_like : (f g : ℕ → ℕ → ℤ) (w h : ℕ) → ((x y : ℕ) → x < w → y < h → f x y ≡ g x y) → rows_of f w h ≡ rows_of g w h
unfolding row_of rows_of
rows_like f g w h same = flat_like _ _ 0 h (λ y down. map_like (λ x. f x y) (λ x. g x y) 0 w (λ x across. same x y (omega (arith, across)) (omega (arith, down))))

-- a function of each number of each row
pub map_rows : {A : Type 0} (f : ℕ → A) (g : ℕ → ℕ → ℕ) (w : ℕ) (ys : List ℕ) → map f (flat_map (λ y. map (λ x. g x y) (range_with_len 0 w)) ys) ≡ flat_map (λ y. map (λ x. f (g x y)) (range_with_len 0 w)) ys
map_rows f g w [] = refl
map_rows f g w (y ∷ ys) = map-append f (map (λ x. g x y) (range_with_len 0 w)) _ ∙ ap (λ l. l ++ map f (flat_map (λ z. map (λ x. g x z) (range_with_len 0 w)) ys)) (both (range_with_len 0 w)) ∙ ap (λ l. map (λ x. f (g x y)) (range_with_len 0 w) ++ l) (map_rows f g w ys)
  where
    both : (xs : List ℕ) → map f (map (λ x. g x y) xs) ≡ map (λ x. f (g x y)) xs
    both [] = refl
    both (x ∷ xs) = ap (λ l. f (g x y) ∷ l) (both xs)

-- ---- outputs one after the other
pub both_true : (a b : Bool) → IsTrue (a && b) → IsTrue a × IsTrue b
both_true true b h = (refl, h)
both_true false b h = cc

pub same_number : (m n : ℕ) → IsTrue (m == n) → m ≡ n
same_number m n h = grind (arith, nat_tests, h)

pub at_most : (m n : ℕ) → IsTrue (nat_le m n) → m ≤ n
at_most m n h = grind (arith, nat_tests, h)

module _ (room : ℕ) where
  laid_start : (a : ℕ) (l : List Spot) → IsTrue (are_laid a l room) → a ≤ room
  laid_start a [] h = at_most a room h
  laid_start a (t ∷ l) h = omega (arith, laid_start (a + t.height * t.width) l (both_true (t.first == a) (are_laid (a + t.height * t.width) l room) h).1)

  pub laid_within : (a : ℕ) (l : List Spot) (k : ℕ) (s : Spot) → IsTrue (are_laid a l room) → k < length l → s ≡ get_or l k s → s.first + s.height * s.width ≤ room
  laid_within a [] k s h below is = absurd (omega arith)
  laid_within a (t ∷ l) zero s h below is =
      let parts = both_true (t.first == a) (are_laid (a + t.height * t.width) l room) h in
      let first : t.first ≡ a = same_number t.first a parts.0 in
      let here : t.first + t.height * t.width ≤ room = omega (arith, laid_start (a + t.height * t.width) l parts.1) in
      subst (λ (u : Spot). u.first + u.height * u.width ≤ room) (sym is) here
  laid_within a (t ∷ l) (suc k) s h below is = laid_within (a + t.height * t.width) l k s (both_true (t.first == a) (are_laid (a + t.height * t.width) l room) h).1 (omega (arith, below)) is
