-- Numbers that are put in a scratch.
use Rattle.std.proofs.Common.{◌≡◌, ◌≢◌, ◌∙◌, refl, sym, ap, subst, ℕ, zero, suc, ◌+◌, ◌*◌, ◌<◌, ◌≤◌, ℤ, pos, true, false, Bool, List, [], ◌∷◌, length, get_or, set, Some, None, Option, Ok, Err, IsTrue, map, arith}
use Rattle.std.specs.Prelude.{◌&&◌, ◌==◌, if◌then◌else◌, nat_lt, slice_get, slice_index_or}
use Rattle.std.proofs.Math.Nat.{mul-le-mul_left}
use Rattle.std.proofs.lemmas.Bool.Decides.{nat_tests}
use Rattle.std.proofs.lemmas.Grind.{get_or-set_at}
use Rattle.std.proofs.lemmas.List.{get_or-map, get_or-set_other, length-map}
use Rattle.std.proofs.lemmas.Option.{get_or_from_slice_get, slice_get-get_or}
use Rattle.pb_values.specs.declared.outcome.Kind.TheVariants.{OutOfView}
use Rattle.pb_model.specs.Bodies.{Place, Store, assigned, local, only_place, output, put_inside, with_number}
use Rattle.pb_statements.specs.Spots.{are_laid}
use Rattle.pb_statements.specs.Shown.{Around}
use Rattle.pb_statements.specs.Stored.{bound, in_spot, sides_of, store_of, stored}
use Rattle.pb_statements.specs.declared.scratch.Scratch.{Scratch}
use Rattle.pb_statements.specs.declared.spot.Spot.{Spot}
use Rattle.pb_statements.proofs.PlaceLemmas.{both_true, laid_within, place_below, same_number}

equal : (i j : ℕ) → (i == j) ≡ true → i ≡ j
equal i j e = grind (arith, nat_tests, e)

other : (i j : ℕ) → (i == j) ≡ false → i ≢ j
other i j e = λ same. absurd (grind (arith, nat_tests, e, same))

less : (i j : ℕ) → nat_lt i j ≡ true → i < j
less i j e = grind (arith, nat_tests, e)

-- ---- a list with another number
set_at : (l : List ℤ) (i j : ℕ) (n : ℤ) → i < length l → get_or (set l i n) j (pos 0) ≡ (if j == i then n else get_or l j (pos 0))
set_at l i j n below = by (j == i) refl
  where
    by : (b : Bool) → (j == i) ≡ b → get_or (set l i n) j (pos 0) ≡ (if b then n else get_or l j (pos 0))
    by true e = get_or-set_at l i j n (pos 0) (equal j i e) below
    by false e = get_or-set_other l i j n (pos 0) (other j i e)

-- ---- locals
local_same : (locals numbers : List ℤ) (spots : List Spot) (k : ℕ) (n : ℤ) (p : Place) → k < length locals → stored (set locals k n) numbers spots p ≡ with_number (stored locals numbers spots) (local k) n p
unfolding stored with_number
local_same locals numbers spots k n (local j) below = set_at locals k j n below
local_same locals numbers spots k n (output j x y) below = refl

pub local_put : (locals numbers : List ℤ) (spots : List Spot) (k : ℕ) (m n : ℤ) → m ≡ n → k < length locals → stored (set locals k m) numbers spots ≡ with_number (stored locals numbers spots) (local k) n
local_put locals numbers spots k m n e below = (λ i p. local_same locals numbers spots k m p below i) ∙ ap (with_number (stored locals numbers spots) (local k)) e

-- ---- outputs stand apart
module _ (room : ℕ) where
  starts : (a : ℕ) (l : List Spot) (k : ℕ) (t : Spot) → IsTrue (are_laid a l room) → k < length l → t ≡ get_or l k t → a ≤ t.first
  starts a [] k t h below is = absurd (omega arith)
  starts a (u ∷ l) zero t h below is =
      let first : u.first ≡ a = same_number u.first a (both_true (u.first == a) (are_laid (a + u.height * u.width) l room) h).0 in
      subst (λ (v : Spot). a ≤ v.first) (sym is) (omega (arith, first))
  starts a (u ∷ l) (suc k) t h below is =
      omega (arith, starts (a + u.height * u.width) l k t (both_true (u.first == a) (are_laid (a + u.height * u.width) l room) h).1 (omega (arith, below)) is)

  apart : (a : ℕ) (l : List Spot) (i j : ℕ) (s t : Spot) → IsTrue (are_laid a l room) → i < j → j < length l → s ≡ get_or l i s → t ≡ get_or l j t → s.first + s.height * s.width ≤ t.first
  apart a [] i j s t h order below si tj = absurd (omega arith)
  apart a (u ∷ l) i zero s t h order below si tj = absurd (omega arith)
  apart a (u ∷ l) zero (suc j) s t h order below si tj =
      let parts = both_true (u.first == a) (are_laid (a + u.height * u.width) l room) h in
      let first : u.first ≡ a = same_number u.first a parts.0 in
      let after : a + u.height * u.width ≤ t.first = starts (a + u.height * u.width) l j t parts.1 (omega (arith, below)) tj in
      subst (λ (v : Spot). v.first + v.height * v.width ≤ t.first) (sym si) (omega (arith, first, after))
  apart a (u ∷ l) (suc i) (suc j) s t h order below si tj =
      apart (a + u.height * u.width) l i j s t (both_true (u.first == a) (are_laid (a + u.height * u.width) l room) h).1 (omega (arith, order)) (omega (arith, below)) si tj

-- two places of an output with the same number are the same
one_place : (x y u v w : ℕ) → x < w → u < w → v * w + u ≡ y * w + x → (u ≡ x) × (v ≡ y)
one_place x y u v w ix iu e = by (nat_lt v y) refl (nat_lt y v) refl
  where
    by : (b : Bool) → nat_lt v y ≡ b → (d : Bool) → nat_lt y v ≡ d → (u ≡ x) × (v ≡ y)
    by true p d q = let h : v + 1 ≤ y = omega (arith, less v y p) in absurd (omega (arith, mul-le-mul_left w h))
    by false p true q = let h : y + 1 ≤ v = omega (arith, less y v q) in absurd (omega (arith, mul-le-mul_left w h))
    by false p false q = let same : v ≡ y = grind (arith, nat_tests, p, q) in let f : v * w ≡ y * w = ap (λ n. n * w) same in (omega (arith, e, f), same)

module _ (locals numbers : List ℤ) (spots : List Spot) (laid : IsTrue (are_laid 0 spots (length numbers))) (k : ℕ) (s : Spot) (below : k < length spots) (is : s ≡ get_or spots k s)
    (x y : ℕ) (across : x < s.width) (down : y < s.height) (n : ℤ) where
  at : ℕ
  at = s.first + (y * s.width + x)

  pub output_room : s.first + (y * s.width + x) < length numbers
  output_room = place_below s.first x y s.width s.height (length numbers) across down (laid_within (length numbers) 0 spots k s laid below is)

  in_others : (j u v : ℕ) (t : Spot) → j < length spots → t ≡ get_or spots j t → j ≢ k
      → in_spot (set numbers (s.first + (y * s.width + x)) n) (Some t) u v ≡ in_spot numbers (Some t) u v
  in_others j u v t there tj ne = by (nat_lt u t.width) refl (nat_lt v t.height) refl
    where
      far : u < t.width → v < t.height → t.first + (v * t.width + u) ≢ s.first + (y * s.width + x)
      far iu iv e = by' (nat_lt j k) refl
        where
          ends : s.first + (y * s.width + x) < s.first + s.height * s.width
          ends = place_below s.first x y s.width s.height (s.first + s.height * s.width) across down (omega arith)

          ends' : t.first + (v * t.width + u) < t.first + t.height * t.width
          ends' = place_below t.first u v t.width t.height (t.first + t.height * t.width) iu iv (omega arith)

          by' : (b : Bool) → nat_lt j k ≡ b → ⊥
          by' true p = absurd (omega (arith, e, ends, ends', apart (length numbers) 0 spots j k t s laid (less j k p) below tj is))
          by' false p = let h : k < j = grind (arith, nat_tests, p, ne) in absurd (omega (arith, e, ends, ends', apart (length numbers) 0 spots k j s t laid h there is tj))

      by : (b : Bool) → nat_lt u t.width ≡ b → (d : Bool) → nat_lt v t.height ≡ d
          → (if b && d then slice_index_or (set numbers (s.first + (y * s.width + x)) n) (t.first + (v * t.width + u)) (pos 0) else pos 0) ≡ (if b && d then slice_index_or numbers (t.first + (v * t.width + u)) (pos 0) else pos 0)
      by true p true q = get_or-set_other numbers (s.first + (y * s.width + x)) (t.first + (v * t.width + u)) n (pos 0) (far (less u t.width p) (less v t.height q))
      by true p false q = refl
      by false p d q = refl

  in_own : (u v : ℕ) → in_spot (set numbers (s.first + (y * s.width + x)) n) (Some s) u v ≡ (if (u == x) && (v == y) then n else in_spot numbers (Some s) u v)
  in_own u v = by ((u == x) && (v == y)) refl (nat_lt u s.width && nat_lt v s.height) refl
    where
      by : (b : Bool) → ((u == x) && (v == y)) ≡ b → (d : Bool) → (nat_lt u s.width && nat_lt v s.height) ≡ d
          → (if d then slice_index_or (set numbers (s.first + (y * s.width + x)) n) (s.first + (v * s.width + u)) (pos 0) else pos 0) ≡ (if b then n else (if d then slice_index_or numbers (s.first + (v * s.width + u)) (pos 0) else pos 0))
      by true p true q =
          let eu : u ≡ x = equal u x (both_true (u == x) (v == y) p).0 in
          let ev : v ≡ y = equal v y (both_true (u == x) (v == y) p).1 in
          get_or-set_at numbers (s.first + (y * s.width + x)) (s.first + (v * s.width + u)) n (pos 0) (rw (eu, ev) refl) output_room
      by true p false q =
          let eu : u ≡ x = equal u x (both_true (u == x) (v == y) p).0 in
          let ev : v ≡ y = equal v y (both_true (u == x) (v == y) p).1 in
          absurd (grind (arith, nat_tests, eu, ev, q, across, down))
      by false p true q =
          get_or-set_other numbers (s.first + (y * s.width + x)) (s.first + (v * s.width + u)) n (pos 0)
          (λ e. let same = one_place x y u v s.width across (less u s.width (both_true (nat_lt u s.width) (nat_lt v s.height) q).0) (omega (arith, e)) in absurd (grind (arith, nat_tests, same.0, same.1, p)))
      by false p false q = refl

  output_same : (p : Place) → stored locals (set numbers (s.first + (y * s.width + x)) n) spots p ≡ with_number (stored locals numbers spots) (output k x y) n p
  unfolding stored with_number
  output_same (local j) = refl
  output_same (output j u v) = by (j == k) refl (slice_get spots j) refl
    where
      by : (b : Bool) → (j == k) ≡ b → (o : Option Spot) → slice_get spots j ≡ o
          → in_spot (set numbers (s.first + (y * s.width + x)) n) o u v ≡ (if b && ((u == x) && (v == y)) then n else in_spot numbers o u v)
      by true p o q =
          let here : slice_get spots j ≡ Some s = ap (slice_get spots) (equal j k p) ∙ slice_get-get_or spots k s below ∙ ap (λ z. Some z) (sym is) in
          subst (λ (o : Option Spot). in_spot (set numbers (s.first + (y * s.width + x)) n) o u v ≡ (if (u == x) && (v == y) then n else in_spot numbers o u v)) (sym here ∙ q) (in_own u v)
      by false p None q = refl
      by false p (Some t) q = in_others j u v t (there spots j t q) (sym (get_or_from_slice_get spots j t t q)) (other j k p)
        where
          there : (l : List Spot) (i : ℕ) (t : Spot) → slice_get l i ≡ Some t → i < length l
          there [] i t h = absurd (cc)
          there (z ∷ l) zero t h = omega arith
          there (z ∷ l) (suc i) t h = omega (arith, there l i t h)

  pub output_put : (m : ℤ) → n ≡ m → stored locals (set numbers (s.first + (y * s.width + x)) n) spots ≡ with_number (stored locals numbers spots) (output k x y) m
  output_put m e = (λ i p. output_same p i) ∙ ap (with_number (stored locals numbers spots) (output k x y)) e

-- ---- what is assigned to an output
past_none : {A : Type 0} (l : List A) (i : ℕ) (d : A) → length l ≤ i → get_or l i d ≡ d
past_none [] i d past = refl
past_none (n ∷ l) zero d past = absurd (omega arith)
past_none (n ∷ l) (suc i) d past = past_none l i d (omega arith)

module _ (a : Around) (s : Scratch) (k : ℕ) (n : ℤ) where
  abbrev sides : ℕ × ℕ
  sides = slice_index_or (bound a s).outs k (0, 0)

  sides_at : (t : Spot) → k < length s.spots.items → t ≡ get_or s.spots.items k t → ◌≡◌ {A = ℕ × ℕ} (slice_index_or (bound a s).outs k (0, 0)) (t.width, t.height)
  unfolding bound
  sides_at t below is = get_or-map sides_of s.spots.items k t (0, 0) below ∙ ap sides_of (sym is)

  sides_past : length s.spots.items ≤ k → ◌≡◌ {A = ℕ × ℕ} (slice_index_or (bound a s).outs k (0, 0)) (0, 0)
  unfolding bound
  sides_past past = past_none (map sides_of s.spots.items) k (0, 0) (omega (arith, length-map s.spots.items sides_of))

  only : (w h : ℕ) (b : Bool) → ((w == 1) && (h == 1)) ≡ b → assigned (store_of s) (only_place k (w, h)) n ≡ assigned (store_of s) (if b then Some (output k 0 0) else None) n
  only w h b e = ap (λ c. assigned (store_of s) (if c then Some (output k 0 0) else None) n) e

  pub only_past : length s.spots.items ≤ k → assigned (store_of s) (only_place k (slice_index_or (bound a s).outs k (0, 0))) n ≡ Err OutOfView
  only_past past = ap (λ q. assigned (store_of s) (only_place k q) n) (sides_past past)

  pub only_wide : (t : Spot) → k < length s.spots.items → t ≡ get_or s.spots.items k t → t.width ≢ 1 → assigned (store_of s) (only_place k (slice_index_or (bound a s).outs k (0, 0))) n ≡ Err OutOfView
  only_wide t below is ne = ap (λ q. assigned (store_of s) (only_place k q) n) (sides_at t below is) ∙ only t.width t.height false (grind (arith, nat_tests, ne))

  pub only_tall : (t : Spot) → k < length s.spots.items → t ≡ get_or s.spots.items k t → t.height ≢ 1 → assigned (store_of s) (only_place k (slice_index_or (bound a s).outs k (0, 0))) n ≡ Err OutOfView
  only_tall t below is ne = ap (λ q. assigned (store_of s) (only_place k q) n) (sides_at t below is) ∙ only t.width t.height false (grind (arith, nat_tests, ne))

  pub only_there : (t : Spot) (m : ℤ) (new : Store) → k < length s.spots.items → t ≡ get_or s.spots.items k t → t.width ≡ 1 → t.height ≡ 1 → m ≡ n → new ≡ with_number (store_of s) (output k 0 0) m
      → assigned (store_of s) (only_place k (slice_index_or (bound a s).outs k (0, 0))) n ≡ Ok new
  only_there t m new below is w h same made =
      ap (λ q. assigned (store_of s) (only_place k q) n) (sides_at t below is) ∙ only t.width t.height true (grind (arith, nat_tests, w, h)) ∙ ap (λ v. Ok (with_number (store_of s) (output k 0 0) v)) (sym same) ∙ ap (λ z. Ok z) (sym made)

  module _ (x y : ℕ) where
    inside : (w h : ℕ) (b : Bool) → (nat_lt x w && nat_lt y h) ≡ b → put_inside (store_of s) k (w, h) (pos x) (pos y) n ≡ (if b then Ok (with_number (store_of s) (output k x y) n) else Err OutOfView)
    inside w h b e = ap (λ c. if c then Ok (with_number (store_of s) (output k x y) n) else Err OutOfView) e

    pub put_past : length s.spots.items ≤ k → put_inside (store_of s) k (slice_index_or (bound a s).outs k (0, 0)) (pos x) (pos y) n ≡ Err OutOfView
    put_past past = ap (λ q. put_inside (store_of s) k q (pos x) (pos y) n) (sides_past past) ∙ inside 0 0 false (grind (arith, nat_tests))

    pub put_wide : (t : Spot) → k < length s.spots.items → t ≡ get_or s.spots.items k t → t.width ≤ x → put_inside (store_of s) k (slice_index_or (bound a s).outs k (0, 0)) (pos x) (pos y) n ≡ Err OutOfView
    put_wide t below is out = ap (λ q. put_inside (store_of s) k q (pos x) (pos y) n) (sides_at t below is) ∙ inside t.width t.height false (grind (arith, nat_tests, out))

    pub put_tall : (t : Spot) → k < length s.spots.items → t ≡ get_or s.spots.items k t → t.height ≤ y → put_inside (store_of s) k (slice_index_or (bound a s).outs k (0, 0)) (pos x) (pos y) n ≡ Err OutOfView
    put_tall t below is out = ap (λ q. put_inside (store_of s) k q (pos x) (pos y) n) (sides_at t below is) ∙ inside t.width t.height false (grind (arith, nat_tests, out))

    pub put_there : (t : Spot) (m : ℤ) (new : Store) → k < length s.spots.items → t ≡ get_or s.spots.items k t → x < t.width → y < t.height → m ≡ n → new ≡ with_number (store_of s) (output k x y) m
        → put_inside (store_of s) k (slice_index_or (bound a s).outs k (0, 0)) (pos x) (pos y) n ≡ Ok new
    put_there t m new below is across down same made =
        ap (λ q. put_inside (store_of s) k q (pos x) (pos y) n) (sides_at t below is) ∙ inside t.width t.height true (grind (arith, nat_tests, across, down)) ∙ ap (λ v. Ok (with_number (store_of s) (output k x y) v)) (sym same) ∙ ap (λ z. Ok z) (sym made)
