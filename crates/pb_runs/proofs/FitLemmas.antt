-- What fits a called transform can enter it.
use Rattle.std.proofs.Common.{◌≡◌, ◌∙◌, refl, sym, ap, subst, ℕ, ◌+◌, ℤ, pos, negsuc, ◌≤ℤ◌, true, false, List, [], ◌∷◌, drop, length, map, take, Some, None, arith}
use Rattle.std.specs.Prelude.{if◌then◌else◌, unwrap_or}
use Rattle.std.specs.List.{AllByRecursion, range_with_len, zip}
use Rattle.std.specs.Option.{option_or}
use Rattle.std.proofs.lemmas.Bool.{and_parts}
use Rattle.std.proofs.lemmas.Bool.Decides.{Decides-int_eq}
use Rattle.std.proofs.lemmas.Int.{ints}
use Rattle.pb_linear.specs.Numbers.{exact_value}
use Rattle.pb_linear.specs.Sizes.{leasts_of}
use Rattle.pb_program.specs.Forms.{DeclValue}
use Rattle.pb_program.specs.Trees.{ProgTransform}
use Rattle.pb_model.specs.Calls.{Outcomes}
use Rattle.pb_model.specs.Cells.{natural}
use Rattle.pb_check.proofs.LawfulLemmas.{both}
use Rattle.pb_entry.specs.Fitting.{IsNatural}
use Rattle.pb_recursion.specs.Depths.{sides_of_matrix, sizes_given}
use Rattle.pb_recursion.specs.Shapes.{Sides, all_same_sides, are_in_range, can_enter, first_side_for, fits, same_sides, side_for, sides_of_decl, sizes_from, stands_alone}
use Rattle.pb_recursion.proofs.ShapeLemmas.{same_is}

-- matrices have these sides, or none where they are negative
abbrev pub HaveNatural : List Sides → List Outcomes → Type 0
HaveNatural [] [] = Unit {0}
HaveNatural (s ∷ ss) (m ∷ mats) = (m.width ≡ natural s.0) × (m.height ≡ natural s.1) × HaveNatural ss mats
HaveNatural _ _ = ⊥

-- ---- they bind the same sizes
side_same : (k : ℕ) (d : DeclValue) (s : Sides) (m : Outcomes) → m.width ≡ natural s.0 → m.height ≡ natural s.1 → side_for k (d, s) ≡ side_for k (d, sides_of_matrix m)
side_same k d s m width height = λ i. if stands_alone k d.w then Some (sym width i) else if stands_alone k d.h then Some (sym height i) else None

first_same : (k : ℕ) (ds : List DeclValue) (ss : List Sides) (mats : List Outcomes) → HaveNatural ss mats → first_side_for k (zip ds ss) ≡ first_side_for k (zip ds (map sides_of_matrix mats))
first_same k [] ss mats h = refl
first_same k (d ∷ ds) [] [] h = refl
first_same k (d ∷ ds) [] (m ∷ mats) h = absurd h
first_same k (d ∷ ds) (s ∷ ss) [] h = absurd h
first_same k (d ∷ ds) (s ∷ ss) (m ∷ mats) h = (λ i. option_or (side_same k d s m h.0 h.1 i) (first_same k ds ss mats h.2 i))

map_same : {A B : Type 0} (f g : A → B) (xs : List A) → ((x : A) → f x ≡ g x) → map f xs ≡ map g xs
map_same f g [] same = refl
map_same f g (x ∷ xs) same = (λ i. same x i ∷ map_same f g xs same i)

pub sizes_same : (t : ProgTransform) (ss : List Sides) (mats : List Outcomes) → HaveNatural ss mats → sizes_from t ss ≡ sizes_given t mats
unfolding sizes_from
sizes_same t ss mats h =
    map_same (λ k. unwrap_or (first_side_for k (zip (take t.inputs t.matrices) ss)) 0) (λ k. unwrap_or (first_side_for k (zip (take t.inputs t.matrices) (map sides_of_matrix mats))) 0) (range_with_len 0 (length t.sizes))
    (λ k. ap (λ o. unwrap_or o 0) (first_same k (take t.inputs t.matrices) ss mats h))

-- ---- and their sides are those of the forms
is_natural : (z w : ℤ) (n : ℕ) → z ≡ w → pos 0 ≤ℤ z → n ≡ natural w → z ≡ pos n
is_natural z (pos k) n e h is = e ∙ ap (λ j. pos j) (sym is)
is_natural z (negsuc k) n e h is = absurd (omega (arith, ints, e, h))

sides_same : (sizes : List ℕ) (ds : List DeclValue) (ss : List Sides) (mats : List Outcomes) → AllByRecursion (IsNatural sizes) ds → HaveNatural ss mats → all_same_sides (map (sides_of_decl sizes) ds) ss ≡ true
    → all_same_sides (map (sides_of_decl sizes) ds) (map sides_of_matrix mats) ≡ true
sides_same sizes [] [] [] naturals h same = refl
sides_same sizes [] [] (m ∷ mats) naturals h same = absurd h
sides_same sizes [] (s ∷ ss) mats naturals h same = absurd (let wrong : false ≡ true = same in cc)
sides_same sizes (d ∷ ds) [] mats naturals h same = absurd (let wrong : false ≡ true = same in cc)
sides_same sizes (d ∷ ds) (s ∷ ss) [] naturals h same = absurd h
sides_same sizes (d ∷ ds) (s ∷ ss) (m ∷ mats) naturals h same =
    let parts = and_parts (same_sides (sides_of_decl sizes d) s) (all_same_sides (map (sides_of_decl sizes) ds) ss) same in
    let here = same_is (sides_of_decl sizes d) s parts.0 in
    let width = is_natural (exact_value d.w sizes) s.0 m.width here.0 naturals.0.0 h.0 in
    let height = is_natural (exact_value d.h sizes) s.1 m.height here.1 naturals.0.1 h.1 in
    both _ _ (both _ _ ((Decides-int_eq (exact_value d.w sizes) (pos m.width)).1 width) ((Decides-int_eq (exact_value d.h sizes) (pos m.height)).1 height)) (sides_same sizes ds ss mats naturals.1 h.2 parts.1)

module _ (t : ProgTransform) (ss wanted : List Sides) (mats : List Outcomes) (naturals : (sizes : List ℕ) → are_in_range (leasts_of t.ranges) sizes ≡ true → AllByRecursion (IsNatural sizes) (take t.inputs t.matrices)) (have : HaveNatural ss mats) where
  enter_same : can_enter t ss ≡ true → can_enter t (map sides_of_matrix mats) ≡ true
  unfolding can_enter
  enter_same h =
      let sizes = sizes_same t ss mats have in
      let parts = and_parts (are_in_range (leasts_of t.ranges) (sizes_from t ss)) (all_same_sides (map (sides_of_decl (sizes_from t ss)) (take t.inputs t.matrices)) ss) h in
      let range : are_in_range (leasts_of t.ranges) (sizes_given t mats) ≡ true = ap (are_in_range (leasts_of t.ranges)) (sym sizes) ∙ parts.0 in
      let same = subst (λ s. all_same_sides (map (sides_of_decl s) (take t.inputs t.matrices)) ss ≡ true) sizes parts.1 in
      both _ _ range (sides_same (sizes_given t mats) (take t.inputs t.matrices) ss mats (naturals (sizes_given t mats) range) have same)

  -- what fits can enter, and what is wanted has the sides of the matrices after `to`
  pub fits_enters : fits t ss wanted ≡ true → (can_enter t (map sides_of_matrix mats) ≡ true) × (all_same_sides (map (sides_of_decl (sizes_given t mats)) (drop (t.inputs + t.middles) t.matrices)) wanted ≡ true)
  unfolding fits
  fits_enters h =
      let parts = and_parts (can_enter t ss) (all_same_sides (map (sides_of_decl (sizes_from t ss)) (drop (t.inputs + t.middles) t.matrices)) wanted) h in
      (enter_same parts.0, subst (λ s. all_same_sides (map (sides_of_decl s) (drop (t.inputs + t.middles) t.matrices)) wanted ≡ true) (sizes_same t ss mats have) parts.1)
