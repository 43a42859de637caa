-- Lists whose elements are compared by a test.
use Rattle.std.specs.Prelude.{Bool, not, if◌then◌else◌, List, [], ◌∷◌, Option, None, filter, option_map}
use Rattle.std.specs.List.{find}
use Rattle.std.specs.Option.{option_or}

-- the elements that are the same as no earlier one
abbrev pub firsts : {A : Type 0} → (A → A → Bool) → List A → List A
firsts same [] = []
firsts same (x ∷ xs) = x ∷ filter (λ y. not (same x y)) (firsts same xs)

-- the first two elements that pass, by the earlier one and then by the later one
abbrev pub first_pair : {A : Type 0} → (A → A → Bool) → List A → Option (A × A)
first_pair test [] = None
first_pair test (x ∷ xs) = option_or (option_map (λ y. (x, y)) (find (test x) xs)) (first_pair test xs)

-- with one more element, before the first that it is at most
abbrev pub placed : {A : Type 0} → (A → A → Bool) → A → List A → List A
placed at_most x [] = x ∷ []
placed at_most x (y ∷ ys) = if at_most x y then x ∷ y ∷ ys else y ∷ placed at_most x ys

-- the elements in order
abbrev pub in_order : {A : Type 0} → (A → A → Bool) → List A → List A
in_order at_most [] = []
in_order at_most (x ∷ xs) = placed at_most x (in_order at_most xs)

-- an element and the next, and so on
abbrev pub pairs_from : {A : Type 0} → A → List A → List (A × A)
pairs_from x [] = []
pairs_from x (y ∷ ys) = (x, y) ∷ pairs_from y ys

-- each two elements that stand side by side
abbrev pub neighbours : {A : Type 0} → List A → List (A × A)
neighbours [] = []
neighbours (x ∷ xs) = pairs_from x xs
