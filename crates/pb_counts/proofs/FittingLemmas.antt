-- Whether sizes are in range, and sides are those of declarations.
use Rattle.std.proofs.Common.{◌≡◌, ◌∙◌, refl, sym, ap, ℕ, ◌+◌, ◌<◌, ◌≤◌, ◌↔◌, IsTrue, true, false, ◌&&◌, List, [], ◌∷◌, length, map, take, drop, get_or, pos, Bool, arith}
use Rattle.std.specs.Prelude.{nat_le}
use Rattle.std.proofs.lemmas.Bool.{false_from_ne_true}
use Rattle.std.proofs.lemmas.Bool.Decides.{nat_tests}
use Rattle.std.proofs.lemmas.List.{at_drop_more, get_or-map, length-map, length-take-le}
use Rattle.pb_linear.specs.Sizes.{InRange}
use Rattle.pb_linear.specs.declared.sizes.TheConstants.{SIZE_TOP}
use Rattle.pb_recursion.specs.Shapes.{Sides, all_same_sides, are_in_range, same_sides}
use Rattle.pb_recursion.proofs.ShapeLemmas.{range_is, same_length}

true_of_le : (a b : ℕ) → a ≤ b → nat_le a b ≡ true
true_of_le a b h = grind (arith, nat_tests, h)

pub range_holds : (leasts sizes : List ℕ) → InRange leasts sizes → are_in_range leasts sizes ≡ true
range_holds [] [] h = refl
range_holds [] (s ∷ ss) h = absurd h
range_holds (l ∷ ls) [] h = absurd h
range_holds (l ∷ ls) (s ∷ ss) h = rw (true_of_le l s h.0) (rw (true_of_le s SIZE_TOP h.1) (range_holds ls ss h.2))

pub range_length : (leasts sizes : List ℕ) → InRange leasts sizes → length leasts ≡ length sizes
range_length [] [] h = refl
range_length [] (s ∷ ss) h = absurd h
range_length (l ∷ ls) [] h = absurd h
range_length (l ∷ ls) (s ∷ ss) h = let rest = range_length ls ss h.2 in omega (arith, rest)

pub other_count : {A : Type 0} (f : A → Sides) (xs : List A) (ys : List Sides) → (length xs ≡ length ys → ⊥) → false ≡ all_same_sides (map f xs) ys
other_count f xs ys other = sym (false_from_ne_true (all_same_sides (map f xs) ys) (λ h. other (sym (length-map xs f) ∙ same_length (map f xs) ys h)))

pub range_test : (leasts sizes : List ℕ) (result : Bool) (P : Type 0) → (InRange leasts sizes → P) → IsTrue result ↔ (P × InRange leasts sizes) → result ≡ are_in_range leasts sizes
range_test leasts sizes true P counted exact = sym (range_holds leasts sizes (exact.0 refl).1)
range_test leasts sizes false P counted exact =
    sym (false_from_ne_true (are_in_range leasts sizes) (λ e. let range = range_is leasts sizes e in let wrong : false ≡ true = exact.1 (counted range, range) in cc))

pub range_exact : (count size_count : ℕ) (least of : List ℕ) (result : Bool) → count ≤ 8 → size_count ≤ 8 → length least ≡ 8 → length of ≡ 8 → IsTrue result ↔ ((count ≡ size_count) × InRange (take count least) (take size_count of)) → result ≡ are_in_range (take count least) (take size_count of)
range_exact count size_count least of result few few_sizes small full exact =
    range_test (take count least) (take size_count of) result (count ≡ size_count)
    (λ range. omega (arith, range_length (take count least) (take size_count of) range, length-take-le count least (omega (arith, few, small)), length-take-le size_count of (omega (arith, few_sizes, full)))) exact

module _ {A : Type 0} (f : A → Sides) (xs : List A) (ys : List Sides) (i : ℕ) (x : A) (at : x ≡ get_or xs i x) (in_xs : i < length xs) (in_ys : i < length ys) (before : all_same_sides (map f xs) ys ≡ all_same_sides (drop i (map f xs)) (drop i ys)) where
  abbrev rest : Bool
  rest = all_same_sides (drop (i + 1) (map f xs)) (drop (i + 1) ys)

  sides_step : all_same_sides (map f xs) ys ≡ (same_sides (f x) (get_or ys i (pos 0, pos 0)) && rest)
  sides_step =
      before ∙ at_drop_more (λ l. all_same_sides l (drop i ys)) (map f xs) i (f x) (omega (arith, in_xs, length-map xs f))
      ∙ at_drop_more (λ l. all_same_sides (get_or (map f xs) i (f x) ∷ drop (i + 1) (map f xs)) l) ys i (pos 0, pos 0) in_ys
      ∙ ap (λ s. same_sides s (get_or ys i (pos 0, pos 0)) && rest) (get_or-map f xs i x (f x) in_xs ∙ ap f (sym at))

  pub same_next : same_sides (f x) (get_or ys i (pos 0, pos 0)) ≡ true → all_same_sides (map f xs) ys ≡ rest
  same_next is = sides_step ∙ ap (λ b. b && rest) is

  pub other_side : same_sides (f x) (get_or ys i (pos 0, pos 0)) ≡ false → false ≡ all_same_sides (map f xs) ys
  other_side is = sym (sides_step ∙ ap (λ b. b && rest) is)
