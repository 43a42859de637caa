-- Matrices that can enter a transform have the sides of its declarations, at sizes in range.
use Rattle.std.proofs.Common.{◌≡◌, ◌∙◌, refl, sym, ap, ℕ, zero, suc, ◌<◌, ◌≤◌, true, false, ◌&&◌, List, [], ◌∷◌, take, map, length, slice_get, Some, None, arith}
use Rattle.std.specs.Prelude.{nat_le}
use Rattle.std.specs.List.{All}
use Rattle.std.specs.Ordering.{int_eq}
use Rattle.std.proofs.lemmas.Bool.{and_parts}
use Rattle.std.proofs.lemmas.Bool.Decides.{Decides-int_eq, nat_tests}
use Rattle.pb_linear.specs.Sizes.{InRange, leasts_of}
use Rattle.pb_linear.specs.declared.sizes.TheConstants.{SIZE_TOP}
use Rattle.pb_program.specs.Forms.{DeclValue}
use Rattle.pb_program.specs.Trees.{ProgTransform}
use Rattle.pb_model.specs.Calls.{Outcomes}
use Rattle.pb_model.specs.Cells.{natural}
use Rattle.pb_calls.specs.Given.{AreGiven, HasSides}
use Rattle.pb_calls.proofs.Handed.{all_at}
use Rattle.pb_recursion.specs.Depths.{IsWhole, sides_of_matrix, sizes_given}
use Rattle.pb_recursion.specs.Shapes.{Sides, all_same_sides, are_in_range, can_enter, same_sides, sides_of_decl}

le_of : (a b : ℕ) → nat_le a b ≡ true → a ≤ b
le_of a b h = grind (arith, nat_tests, h)

pub range_is : (leasts sizes : List ℕ) → are_in_range leasts sizes ≡ true → InRange leasts sizes
range_is [] [] h = tt
range_is [] (s ∷ ss) h = absurd (let wrong : false ≡ true = h in cc)
range_is (l ∷ ls) [] h = absurd (let wrong : false ≡ true = h in cc)
range_is (l ∷ ls) (s ∷ ss) h =
    let first = and_parts (nat_le l s) (nat_le s SIZE_TOP && are_in_range ls ss) h in
    let second = and_parts (nat_le s SIZE_TOP) (are_in_range ls ss) first.1 in
    (le_of l s first.0, le_of s SIZE_TOP second.0, range_is ls ss second.1)

pub same_is : (a b : Sides) → same_sides a b ≡ true → (a.0 ≡ b.0) × (a.1 ≡ b.1)
same_is a b h = let parts = and_parts (int_eq a.0 b.0) (int_eq a.1 b.1) h in ((Decides-int_eq a.0 b.0).0 parts.0, (Decides-int_eq a.1 b.1).0 parts.1)

pub same_length : (xs ys : List Sides) → all_same_sides xs ys ≡ true → length xs ≡ length ys
same_length [] [] h = refl
same_length [] (y ∷ ys) h = absurd (let wrong : false ≡ true = h in cc)
same_length (x ∷ xs) [] h = absurd (let wrong : false ≡ true = h in cc)
same_length (x ∷ xs) (y ∷ ys) h = let rest = same_length xs ys (and_parts (same_sides x y) (all_same_sides xs ys) h).1 in omega (arith, rest)

pub same_at : (xs ys : List Sides) (k : ℕ) (x y : Sides) → all_same_sides xs ys ≡ true → slice_get xs k ≡ Some x → slice_get ys k ≡ Some y → (x.0 ≡ y.0) × (x.1 ≡ y.1)
same_at [] ys k x y h at_x at_y = absurd (let wrong : None ≡ Some x = at_x in cc)
same_at (a ∷ xs) [] k x y h at_x at_y = absurd (let wrong : None ≡ Some y = at_y in cc)
same_at (a ∷ xs) (b ∷ ys) zero x y h at_x at_y =
    let is_x : Some a ≡ Some x = at_x in
    let is_y : Some b ≡ Some y = at_y in
    let same_x : a ≡ x = cc in
    let same_y : b ≡ y = cc in
    let same = same_is a b (and_parts (same_sides a b) (all_same_sides xs ys) h).0 in
    (ap (λ s. s.0) (sym same_x) ∙ same.0 ∙ ap (λ s. s.0) same_y, ap (λ s. s.1) (sym same_x) ∙ same.1 ∙ ap (λ s. s.1) same_y)
same_at (a ∷ xs) (b ∷ ys) (suc k) x y h at_x at_y = same_at xs ys k x y (and_parts (same_sides a b) (all_same_sides xs ys) h).1 at_x at_y

pub map_get : {A B : Type 0} (f : A → B) (xs : List A) (k : ℕ) (x : A) → slice_get xs k ≡ Some x → slice_get (map f xs) k ≡ Some (f x)
map_get f [] k x at = absurd (let wrong : None ≡ Some x = at in cc)
map_get f (y ∷ xs) zero x at = let is : Some y ≡ Some x = at in let same : y ≡ x = cc in ap (λ z. Some (f z)) same
map_get f (y ∷ xs) (suc k) x at = map_get f xs k x at

pub take_get : {A : Type 0} (n : ℕ) (xs : List A) (k : ℕ) (x : A) → k < n → slice_get xs k ≡ Some x → slice_get (take n xs) k ≡ Some x
take_get zero xs k x low at = absurd (omega (arith, low))
take_get (suc n) [] k x low at = absurd (let wrong : None ≡ Some x = at in cc)
take_get (suc n) (y ∷ xs) zero x low at = at
take_get (suc n) (y ∷ xs) (suc k) x low at = take_get n xs k x (omega (arith, low)) at

pub get_below : {A : Type 0} (xs : List A) (k : ℕ) (x : A) → slice_get xs k ≡ Some x → k < length xs
get_below [] k x at = absurd (let wrong : None ≡ Some x = at in cc)
get_below (y ∷ xs) zero x at = omega arith
get_below (y ∷ xs) (suc k) x at = let rest = get_below xs k x at in omega (arith, rest)

map_length : {A B : Type 0} (f : A → B) (xs : List A) → length (map f xs) ≡ length xs
map_length f [] = refl
map_length f (x ∷ xs) = let rest = map_length f xs in omega (arith, rest)

take_length : {A : Type 0} (n : ℕ) (xs : List A) → n ≤ length xs → length (take n xs) ≡ n
take_length zero xs h = refl
take_length (suc n) [] h = absurd (omega (arith, h))
take_length (suc n) (x ∷ xs) h = let rest = take_length n xs (omega (arith, h)) in omega (arith, rest)

module _ (t : ProgTransform) (ins : List Outcomes) (enters : can_enter t (map sides_of_matrix ins) ≡ true) where
  abbrev sizes : List ℕ
  sizes = sizes_given t ins

  abbrev wanted : List Sides
  wanted = map (sides_of_decl sizes) (take t.inputs t.matrices)

  parts : (are_in_range (leasts_of t.ranges) sizes ≡ true) × (all_same_sides wanted (map sides_of_matrix ins) ≡ true)
  unfolding can_enter
  parts = and_parts (are_in_range (leasts_of t.ranges) sizes) (all_same_sides wanted (map sides_of_matrix ins)) enters

  pub entered_range : InRange (leasts_of t.ranges) sizes
  entered_range = range_is (leasts_of t.ranges) sizes parts.0

  entered_count : t.inputs ≤ length t.matrices → length ins ≡ t.inputs
  entered_count inputs =
      let same = same_length wanted (map sides_of_matrix ins) parts.1 in
      sym (map_length sides_of_matrix ins) ∙ sym same ∙ map_length (sides_of_decl sizes) (take t.inputs t.matrices) ∙ take_length t.inputs t.matrices inputs

  entered_each : t.inputs ≤ length t.matrices → All IsWhole ins → (m : ℕ) (d : DeclValue) (g : Outcomes) → slice_get t.matrices m ≡ Some d → slice_get ins m ≡ Some g → HasSides sizes d g
  entered_each inputs whole m d g declared at =
      let low : m < t.inputs = omega (arith, get_below ins m g at, entered_count inputs) in
      let same = same_at wanted (map sides_of_matrix ins) m (sides_of_decl sizes d) (sides_of_matrix g) parts.1 (map_get (sides_of_decl sizes) (take t.inputs t.matrices) m d (take_get t.inputs t.matrices m d low declared)) (map_get sides_of_matrix ins m g at) in
      record { width = ap natural (sym same.0); height = ap natural (sym same.1); all = all_at IsWhole ins m g whole at }

  pub entered_given : t.inputs ≤ length t.matrices → All IsWhole ins → AreGiven t sizes ins
  entered_given inputs whole = record { count = entered_count inputs; each = entered_each inputs whole }
