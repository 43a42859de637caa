-- The sides of matrices that are given to a call, the sizes that they bind, and whether they fit.
use Rattle.std.specs.Prelude.{ℕ, ◌+◌, ◌*◌, ℤ, pos, ◌-ℤ◌, nat_le, Bool, true, false, ◌&&◌, if◌then◌else◌, List, [], ◌∷◌, ◌++◌, drop, take, map, length, Option, Some, None, unwrap_or}
use Rattle.std.specs.List.{list_all, range_with_len, zip}
use Rattle.std.specs.Option.{option_or}
use Rattle.std.specs.Ordering.{int_eq}
use Rattle.pb_linear.specs.Numbers.{Numbers, coefficient, exact_value}
use Rattle.pb_linear.specs.Sizes.{leasts_of}
use Rattle.pb_linear.specs.declared.sizes.TheConstants.{SIZE_TOP}
use Rattle.pb_program.specs.declared.view.ReadView.{ReadView}
use Rattle.pb_program.specs.declared.view.ReadView.TheVariants as view
use Rattle.pb_program.specs.Areas.{Area, Span}
use Rattle.pb_program.specs.Forms.{DeclValue}
use Rattle.pb_program.specs.Trees.{ProgTransform}
use Rattle.pb_model.specs.Cells.{natural}

-- a width and a height, each of which may be negative
abbrev pub Sides : Type 0
Sides = ℤ × ℤ

abbrev pub span_length : Span → ℤ
span_length s = s.high -ℤ s.low

-- of what a view shows; a column is a view of one dimension
abbrev pub sides_of_area : ReadView → Area → Sides
sides_of_area view.Column a = (span_length a.y, pos 1)
sides_of_area _ a = (span_length a.x, span_length a.y)

abbrev pub sides_of_decl : List ℕ → DeclValue → Sides
sides_of_decl sizes d = (exact_value d.w sizes, exact_value d.h sizes)

-- how many cells there are; none where a side is negative
abbrev pub area : Sides → ℕ
area s = natural s.0 * natural s.1

abbrev pub same_sides : Sides → Sides → Bool
same_sides a b = int_eq a.0 b.0 && int_eq a.1 b.1

-- matrix by matrix
abbrev pub all_same_sides : List Sides → List Sides → Bool
all_same_sides [] [] = true
all_same_sides (a ∷ rest) (b ∷ others) = same_sides a b && all_same_sides rest others
all_same_sides _ _ = false

-- ---- the sizes that matrices bind
abbrev pub is_zero_row : List ℤ → Bool
is_zero_row row = list_all (λ z. int_eq z (pos 0)) row

-- one coefficient is 1, and the others are 0
abbrev pub is_unit_row : ℕ → List ℤ → Bool
is_unit_row k row = int_eq (coefficient row k) (pos 1) && is_zero_row (take k row ++ drop (k + 1) row)

-- the form is a size variable alone
abbrev pub stands_alone : ℕ → Numbers → Bool
stands_alone k n = int_eq n.constant (pos 0) && (is_unit_row k n.whole && is_zero_row (n.half ++ (n.third ++ n.quarter)))

-- the side of a matrix of which the size variable is the form: the width, or else the height
abbrev pub side_for : ℕ → DeclValue × Sides → Option ℕ
side_for k m = if stands_alone k m.0.w then Some (natural m.1.0) else if stands_alone k m.0.h then Some (natural m.1.1) else None

-- the first such side among some matrices
abbrev pub first_side_for : ℕ → List (DeclValue × Sides) → Option ℕ
first_side_for k [] = None
first_side_for k (m ∷ rest) = option_or (side_for k m) (first_side_for k rest)

-- a size for each variable
unfoldable pub sizes_from : ProgTransform → List Sides → List ℕ
sizes_from t given = map (λ k. unwrap_or (first_side_for k (zip (take t.inputs t.matrices) given)) 0) (range_with_len 0 (length t.sizes))

-- ---- whether they fit
-- there is a size for each variable, from its least size to the top
abbrev pub are_in_range : List ℕ → List ℕ → Bool
are_in_range [] [] = true
are_in_range (least ∷ leasts) (size ∷ sizes) = nat_le least size && (nat_le size SIZE_TOP && are_in_range leasts sizes)
are_in_range _ _ = false

-- the sizes are in range, and each matrix after `from` has the sides of its form
unfoldable pub can_enter : ProgTransform → List Sides → Bool
can_enter t given =
    are_in_range (leasts_of t.ranges) (sizes_from t given)
    && all_same_sides (map (sides_of_decl (sizes_from t given)) (take t.inputs t.matrices)) given

-- so that what is given fits, and what is wanted has the sides of the matrices after `to`
unfoldable pub fits : ProgTransform → List Sides → List Sides → Bool
fits t given wanted =
    can_enter t given && all_same_sides (map (sides_of_decl (sizes_from t given)) (drop (t.inputs + t.middles) t.matrices)) wanted
