-- Rows of tests that are made once for all readers that they fit.
use Rattle.std.specs.Prelude.{◌≡◌, ◌⊎◌, ◌<◌, ◌≤◌, ◌-◌, take, drop, ℕ, ◌==◌, pos, Bool, ◌&&◌, not, List, [], ◌∷◌, length, map, slice_get, slice_index, Some}
use Rattle.std.specs.List.{All}
use Rattle.pb_linear.specs.declared.boxes.ReadBox.{ReadBox}
use Rattle.pb_linear.specs.declared.vform.SymBox.{SymBox}
use Rattle.pb_graph.specs.Edges.{apart, lower_end, span, upper_end}
use Rattle.pb_graph.specs.Nodes.{NodeValue}

-- on an axis, a cell of an area may read a cell of a segment of the matrix that is read
abbrev pub near_on : List ℕ → ReadBox → ℕ → SymBox → NodeValue → Bool
near_on leasts r axis area source = (r.matrix == source.matrix) && not (apart leasts area r source.area axis)

-- two segments of one matrix have the same ends on an axis
pub record AreSame (axis : ℕ) (u v : NodeValue) : Type 0 where
  pub matrix : u.matrix ≡ v.matrix
  pub lower : lower_end axis u.area ≡ lower_end axis v.area
  pub upper : upper_end axis u.area ≡ upper_end axis v.area

-- for each segment the number of one with the same ends, which isn't greater
abbrev pub AreFirsts : ℕ → List NodeValue → List ℕ → Type 0
AreFirsts axis nodes firsts = (k : ℕ) (v : NodeValue) → k < length firsts → slice_get nodes k ≡ Some v →
    (slice_index firsts k ≡ k) ⊎ ((u : NodeValue) × (slice_index firsts k < k) × (slice_get nodes (slice_index firsts k) ≡ Some u) × AreSame axis u v)

-- where the bounds of a read on an axis depend on x or on y, two areas have the same ends there
pub record AreAlike (r : ReadBox) (axis : ℕ) (a b : SymBox) : Type 0 where
  pub on_x : ((span axis r).low.x ≡ pos 0) × ((span axis r).high.x ≡ pos 0) ⊎ (a.x0 ≡ b.x0) × (a.x1 ≡ b.x1)
  pub on_y : ((span axis r).low.y ≡ pos 0) × ((span axis r).high.y ≡ pos 0) ⊎ (a.y0 ≡ b.y0) × (a.y1 ≡ b.y1)

-- an area, and for each segment whether a cell of the area may read a cell of it on an axis
pub record RowValue : Type 0 where
  pub area : SymBox
  pub near : List Bool

abbrev pub IsRow : List ℕ → List NodeValue → ReadBox → ℕ → RowValue → Type 0
IsRow leasts nodes r axis w = w.near ≡ map (near_on leasts r axis w.area) nodes

-- from the first to before the end there are all segments of a matrix
pub record IsSpan (nodes : List NodeValue) (matrix first end : ℕ) : Type 0 where
  pub order : first ≤ end
  pub inside : end ≤ length nodes
  pub whole : (k : ℕ) (v : NodeValue) → slice_get nodes k ≡ Some v → matrix ≡ v.matrix → (first ≤ k) × (k < end)

abbrev pub part : List NodeValue → ℕ → ℕ → List NodeValue
part nodes first end = take (end - first) (drop first nodes)

-- the rows of a read, over a part of the segments
pub record RowsValue : Type 0 where
  pub first : ℕ
  pub end : ℕ
  pub x : List RowValue
  pub y : List RowValue

pub record AreRowsOf (leasts : List ℕ) (nodes : List NodeValue) (r : ReadBox) (rows : RowsValue) : Type 0 where
  pub span : IsSpan nodes r.matrix rows.first rows.end
  pub on_x : All (IsRow leasts (part nodes rows.first rows.end) r 0) rows.x
  pub on_y : All (IsRow leasts (part nodes rows.first rows.end) r 1) rows.y

-- the rows of each read
abbrev pub AreRows : List ℕ → List NodeValue → List ReadBox → List RowsValue → Type 0
AreRows leasts nodes [] [] = Unit {0}
AreRows leasts nodes [] (_ ∷ _) = ⊥
AreRows leasts nodes (_ ∷ _) [] = ⊥
AreRows leasts nodes (r ∷ reads) (w ∷ rows) = AreRowsOf leasts nodes r w × AreRows leasts nodes reads rows

-- what passes both tests
abbrev pub both : List Bool → List Bool → List Bool
both [] ys = []
both (x ∷ xs) [] = []
both (x ∷ xs) (y ∷ ys) = (x && y) ∷ both xs ys
