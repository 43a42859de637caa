-- Outputs that are laid one after the other.
use Rattle.std.proofs.Common.{◌≡◌, ◌∙◌, refl, sym, ap, ℕ, zero, suc, ◌+◌, ◌*◌, ◌<◌, ◌≤◌, ℤ, pos, Bool, true, false, List, [], ◌∷◌, ◌++◌, length, length-append, drop, take, get_or, map, Option, Some, None, IsTrue, subst, drop-cons, arith, append_assoc, length-drop}
use Rattle.std.specs.Prelude.{◌&&◌, ◌==◌, nat_le, nat_lt, slice_get, slice_index_or, if◌then◌else◌}
use Rattle.std.specs.List.{flat_map, range_with_len}
use Rattle.std.proofs.lemmas.Bool.Decides.{nat_tests}
use Rattle.std.proofs.lemmas.Option.{get_or_from_slice_get}
use Rattle.pb_model.specs.Bodies.{Place, Store, at_first, local, output, output_cells, outputs_from}
use Rattle.pb_statements.specs.Outputs.{end_of}
use Rattle.pb_statements.specs.Spots.{are_laid}
use Rattle.pb_statements.specs.Stored.{in_spot, sides_of, stored}
use Rattle.pb_statements.specs.declared.spot.Spot.{Spot}
use Rattle.pb_statements.proofs.PlaceLemmas.{at_most, both_true, laid_within, place_below, same_number}

both : (a b : Bool) → IsTrue a → IsTrue b → IsTrue (a && b)
both true b h k = k
both false b h k = h

equals : (m n : ℕ) → m ≡ n → IsTrue (m == n)
equals m n e = grind (arith, nat_tests, e)

below : (m n : ℕ) → m ≤ n → IsTrue (nat_le m n)
below m n e = grind (arith, nat_tests, e)

pub end_more : (a : ℕ) (l : List Spot) (s : Spot) → end_of a (l ++ s ∷ []) ≡ end_of a l + s.height * s.width
end_more a [] s = refl
end_more a (t ∷ l) s = end_more (a + t.height * t.width) l s

pub laid_more : (a : ℕ) (l : List Spot) (s : Spot) (room : ℕ) → IsTrue (are_laid a l room) → s.first ≡ end_of a l → s.first + s.height * s.width ≤ room → IsTrue (are_laid a (l ++ s ∷ []) room)
laid_more a [] s room h first fits = both (s.first == a) (nat_le (a + s.height * s.width) room) (equals s.first a first) (below (a + s.height * s.width) room (omega (arith, first, fits)))
laid_more a (t ∷ l) s room h first fits =
    let parts = both_true (t.first == a) (are_laid (a + t.height * t.width) l room) h in
    both (t.first == a) (are_laid (a + t.height * t.width) (l ++ s ∷ []) room) parts.0 (laid_more (a + t.height * t.width) l s room parts.1 first fits)

-- after a push that may be refused
pub laid_pushed : (b : Bool) (l m : List Spot) (s : Spot) (room : ℕ) → m ≡ (if b then l ++ s ∷ [] else l) → IsTrue (are_laid 0 l room) → s.first ≡ end_of 0 l → s.first + s.height * s.width ≤ room → IsTrue (are_laid 0 m room)
laid_pushed true l m s room e h first fits = subst (λ (k : List Spot). IsTrue (are_laid 0 k room)) (sym e) (laid_more 0 l s room h first fits)
laid_pushed false l m s room e h first fits = subst (λ (k : List Spot). IsTrue (are_laid 0 k room)) (sym e) h

pub end_pushed : (b : Bool) (l m : List Spot) (s : Spot) → m ≡ (if b then l ++ s ∷ [] else l) → b ≡ true → s.first ≡ end_of 0 l → end_of 0 m ≡ s.first + s.height * s.width
end_pushed true l m s e t first = ap (end_of 0) e ∙ end_more 0 l s ∙ ap (λ n. n + s.height * s.width) (sym first)
end_pushed false l m s e t first = absurd (cc)

-- what is laid is laid up to its end
tight : (a : ℕ) (l : List Spot) (room : ℕ) → IsTrue (are_laid a l room) → IsTrue (are_laid a l (end_of a l))
tight a [] room h = below a a (omega arith)
tight a (t ∷ l) room h =
    let parts = both_true (t.first == a) (are_laid (a + t.height * t.width) l room) h in
    both (t.first == a) (are_laid (a + t.height * t.width) l (end_of (a + t.height * t.width) l)) parts.0 (tight (a + t.height * t.width) l room parts.1)

pub end_fits : (a : ℕ) (l : List Spot) (room : ℕ) → IsTrue (are_laid a l room) → end_of a l ≤ room
end_fits a [] room h = at_most a room h
end_fits a (t ∷ l) room h = end_fits (a + t.height * t.width) l room (both_true (t.first == a) (are_laid (a + t.height * t.width) l room) h).1

past_none : (l : List ℤ) (i : ℕ) → length l ≤ i → get_or l i (pos 0) ≡ pos 0
past_none [] i past = refl
past_none (n ∷ l) zero past = absurd (omega arith)
past_none (n ∷ l) (suc i) past = past_none l i (omega arith)

less : (i j : ℕ) → nat_lt i j ≡ true → i < j
less i j e = grind (arith, nat_tests, e)

there : (l : List Spot) (i : ℕ) (t : Spot) → slice_get l i ≡ Some t → i < length l
there [] i t h = absurd (cc)
there (z ∷ l) zero t h = omega arith
there (z ∷ l) (suc i) t h = omega (arith, there l i t h)

module _ (locals numbers : List ℤ) (spots : List Spot) (laid : IsTrue (are_laid 0 spots (length numbers))) where
  last : (k x y : ℕ) (t : Spot) → slice_get spots k ≡ Some t → x < t.width → y < t.height → t.first + (y * t.width + x) < end_of 0 spots
  last k x y t at across down =
      place_below t.first x y t.width t.height (end_of 0 spots) across down
      (laid_within (end_of 0 spots) 0 spots k t (tight 0 spots (length numbers) laid) (there spots k t at) (sym (get_or_from_slice_get spots k t t at)))

  module _ (some : (i : ℕ) → i < length locals → get_or locals i (pos 0) ≡ pos 0) (zeros : (i : ℕ) → i < end_of 0 spots → get_or numbers i (pos 0) ≡ pos 0) where
    zero_at : (p : Place) → stored locals numbers spots p ≡ pos 0
    unfolding stored
    zero_at (local k) = by (nat_lt k (length locals)) refl
      where
        by : (b : Bool) → nat_lt k (length locals) ≡ b → get_or locals k (pos 0) ≡ pos 0
        by true e = some k (less k (length locals) e)
        by false e = past_none locals k (grind (arith, nat_tests, e))
    zero_at (output k x y) = by (slice_get spots k) refl
      where
        by' : (t : Spot) → slice_get spots k ≡ Some t → (b : Bool) → nat_lt x t.width ≡ b → (d : Bool) → nat_lt y t.height ≡ d → (if b && d then slice_index_or numbers (t.first + (y * t.width + x)) (pos 0) else pos 0) ≡ pos 0
        by' t at true p true q = zeros (t.first + (y * t.width + x)) (last k x y t at (less x t.width p) (less y t.height q))
        by' t at true p false q = refl
        by' t at false p d q = refl

        by : (o : Option Spot) → slice_get spots k ≡ o → in_spot numbers o x y ≡ pos 0
        by None at = refl
        by (Some t) at = by' t at (nat_lt x t.width) refl (nat_lt y t.height) refl

    pub all_zero : stored locals numbers spots ≡ at_first
    all_zero = λ i p. zero_at p i

-- ---- the numbers of outputs that are laid
module _ (numbers : List ℤ) where
  row_split : (f : ℕ → ℤ) (b x n : ℕ) → ((i : ℕ) → i < x + n → f i ≡ get_or numbers (b + i) (pos 0)) → b + (x + n) ≤ length numbers → map f (range_with_len x n) ++ drop (b + (x + n)) numbers ≡ drop (b + x) numbers
  row_split f b x zero same fits = let e : b + (x + 0) ≡ b + x = omega arith in ap (λ k. drop k numbers) e
  row_split f b x (suc n) same fits =
      let e : b + (x + suc n) ≡ b + (x + 1 + n) = omega arith in
      let g : suc (b + x) ≡ b + (x + 1) = omega arith in
      let inside : b + x < length numbers = omega (arith, fits) in
      ap (λ k. f x ∷ (map f (range_with_len (x + 1) n) ++ drop k numbers)) e
      ∙ ap (λ l. f x ∷ l) (row_split f b (x + 1) n (λ i h. same i (omega (arith, h))) (omega (arith, fits)))
      ∙ ap (λ v. v ∷ drop (b + (x + 1)) numbers) (same x (omega arith)) ∙ ap (λ k. get_or numbers (b + x) (pos 0) ∷ drop k numbers) (sym g) ∙ sym (drop-cons numbers (b + x) (pos 0) inside)

  rows_split : (f : ℕ → ℕ → ℤ) (first w y n : ℕ) → ((i j : ℕ) → i < w → j < y + n → f i j ≡ get_or numbers (first + (j * w + i)) (pos 0)) → first + (y + n) * w ≤ length numbers
      → flat_map (λ j. map (λ i. f i j) (range_with_len 0 w)) (range_with_len y n) ++ drop (first + (y + n) * w) numbers ≡ drop (first + y * w) numbers
  rows_split f first w y zero same fits = let e : first + (y + 0) * w ≡ first + y * w = omega arith in ap (λ k. drop k numbers) e
  rows_split f first w y (suc n) same fits =
      let e : first + (y + suc n) * w ≡ first + (y + 1 + n) * w = omega arith in
      let g : first + (y + 1) * w ≡ first + y * w + (0 + w) = omega arith in
      let z : first + y * w + 0 ≡ first + y * w = omega arith in
      let row : map (λ i. f i y) (range_with_len 0 w) ++ drop (first + y * w + (0 + w)) numbers ≡ drop (first + y * w + 0) numbers
      = row_split (λ i. f i y) (first + y * w) 0 w (λ i h. same i y (omega (arith, h)) (omega arith) ∙ ap (λ k. get_or numbers k (pos 0)) (omega arith)) (omega (arith, fits)) in
      append_assoc (map (λ i. f i y) (range_with_len 0 w)) (flat_map (λ j. map (λ i. f i j) (range_with_len 0 w)) (range_with_len (y + 1) n)) (drop (first + (y + suc n) * w) numbers)
      ∙ ap (λ l. map (λ i. f i y) (range_with_len 0 w) ++ l) (ap (λ k. flat_map (λ j. map (λ i. f i j) (range_with_len 0 w)) (range_with_len (y + 1) n) ++ drop k numbers) e
      ∙ rows_split f first w (y + 1) n (λ i j h k. same i j h (omega (arith, k))) (omega (arith, fits)) ∙ ap (λ k. drop k numbers) g) ∙ row ∙ ap (λ k. drop k numbers) z

  outputs_split : (st : Store) (a k : ℕ) (l : List Spot) → IsTrue (are_laid a l (length numbers))
      → ((i x y : ℕ) (t : Spot) → slice_get l i ≡ Some t → x < t.width → y < t.height → st (output (k + i) x y) ≡ get_or numbers (t.first + (y * t.width + x)) (pos 0))
      → outputs_from k st (map sides_of l) ++ drop (end_of a l) numbers ≡ drop a numbers
  outputs_split st a k [] h same = refl
  outputs_split st a k (s ∷ l) h same =
      let parts = both_true (s.first == a) (are_laid (a + s.height * s.width) l (length numbers)) h in
      let first : s.first ≡ a = same_number s.first a parts.0 in
      let z : k + 0 ≡ k = omega arith in
      let fits : s.first + s.height * s.width ≤ length numbers = laid_within (length numbers) a (s ∷ l) 0 s h (omega arith) refl in
      let e : s.first + (0 + s.height) * s.width ≡ a + s.height * s.width = omega (arith, first) in
      let d : s.first + 0 * s.width ≡ a = omega (arith, first) in
      append_assoc (output_cells st k (s.width, s.height)) (outputs_from (k + 1) st (map sides_of l)) (drop (end_of (a + s.height * s.width) l) numbers)
      ∙ ap (λ r. output_cells st k (s.width, s.height) ++ r) (outputs_split st (a + s.height * s.width) (k + 1) l parts.1
      (λ i x y t at across down. let n : k + 1 + i ≡ k + suc i = omega arith in ap (λ m. st (output m x y)) n ∙ same (suc i) x y t at across down) ∙ ap (λ m. drop m numbers) (sym e))
      ∙ rows_split (λ i j. st (output k i j)) s.first s.width 0 s.height
      (λ i j across down. ap (λ m. st (output m i j)) (sym z) ∙ same 0 i j s refl across (omega (arith, down))) (omega (arith, fits)) ∙ ap (λ m. drop m numbers) d

  taken : (o : List ℤ) (n : ℕ) → o ++ drop n numbers ≡ numbers → n ≤ length numbers → take n numbers ≡ o
  taken o n e fits =
      let size : length o ≡ n = omega (arith, ap length e, length-append o (drop n numbers), length-drop n numbers) in
      ap (take n) (sym e) ∙ ap (λ k. take k (o ++ drop n numbers)) (sym size) ∙ take_all o (drop n numbers)
    where
      take_all : (l rest : List ℤ) → take (length l) (l ++ rest) ≡ l
      take_all [] rest = refl
      take_all (v ∷ l) rest = ap (λ t. v ∷ t) (take_all l rest)

  pub outputs_are : (locals : List ℤ) (spots : List Spot) → IsTrue (are_laid 0 spots (length numbers)) → take (end_of 0 spots) numbers ≡ outputs_from 0 (stored locals numbers spots) (map sides_of spots)
  unfolding stored
  outputs_are locals spots laid =
      taken (outputs_from 0 (stored locals numbers spots) (map sides_of spots)) (end_of 0 spots)
      (outputs_split (stored locals numbers spots) 0 0 spots laid (λ i x y t at across down. let z : 0 + i ≡ i = omega arith in ap (λ m. in_spot numbers (slice_get spots m) x y) z ∙ ap (λ o. in_spot numbers o x y) at ∙ grind (arith, nat_tests)))
      (end_fits 0 spots (length numbers) laid)
