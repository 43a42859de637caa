-- Matrices that stand one after the other among the cells of a run.
use Rattle.std.specs.Prelude.{◌≡◌, ℕ, ◌+◌, ◌*◌, ◌≤◌, List, [], ◌∷◌}
use Rattle.pb_linear.specs.Numbers.{exact_value}
use Rattle.pb_values.specs.Views.{Shows}
use Rattle.pb_values.specs.declared.shape.Shape.{Shape}
use Rattle.pb_values.specs.declared.shape.TheConstants.{MOST_SIDE}
use Rattle.pb_values.specs.declared.view.View.{View}
use Rattle.pb_program.specs.Forms.{DeclValue}
use Rattle.pb_model.specs.Cells.{natural}

-- the sides of a matrix at sizes
abbrev pub shape_of : List ℕ → DeclValue → Shape
shape_of sizes d = record { dims = d.dims; w = natural (exact_value d.w sizes); h = natural (exact_value d.h sizes) }

-- how many cells it has
abbrev pub area_at : List ℕ → DeclValue → ℕ
area_at sizes d = (shape_of sizes d).w * (shape_of sizes d).h

abbrev pub cell_count : List ℕ → List DeclValue → ℕ
cell_count sizes [] = 0
cell_count sizes (d ∷ ds) = area_at sizes d + cell_count sizes ds

-- no side is above the limit
pub record HasShortSides (sizes : List ℕ) (d : DeclValue) : Type 0 where
  pub width : (shape_of sizes d).w ≤ MOST_SIDE
  pub height : (shape_of sizes d).h ≤ MOST_SIDE

-- the cells of a matrix from this number on, row by row
abbrev pub IsWhole : ℕ → List ℕ → DeclValue → View → Type 0
IsWhole first sizes d v = Shows v (shape_of sizes d) (λ x y. first + (y * (shape_of sizes d).w + x))

-- matrices one after the other, each row by row
abbrev pub AreInARow : ℕ → List ℕ → List DeclValue → List View → Type 0
AreInARow first sizes [] vs = vs ≡ []
AreInARow first sizes (d ∷ ds) [] = ⊥
AreInARow first sizes (d ∷ ds) (v ∷ vs) = IsWhole first sizes d v × AreInARow (first + area_at sizes d) sizes ds vs
