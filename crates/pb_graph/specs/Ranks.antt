-- Where a cell stands in the order of layers, and what a layering promises of each read.
use Rattle.std.specs.Prelude.{◌≡◌, ◌<◌, ◌⊎◌, ℕ, ◌==◌, ℤ, pos, ◌+ℤ◌, ◌-ℤ◌, ◌<ℤ◌, ◌≤ℤ◌, if◌then◌else◌, List, [], ◌∷◌, IfSome, Option, Some, slice_get, slice_index}
use Rattle.std.specs.List.{Contains}
use Rattle.pb_linear.specs.Form.{value}
use Rattle.pb_linear.specs.VForm.{InArea}
use Rattle.pb_linear.specs.declared.boxes.ReadBox.{ReadBox}
use Rattle.pb_linear.specs.declared.boxes.Sign.{Sign}
use Rattle.pb_linear.specs.declared.boxes.Sign.TheVariants.{Plus, Minus}
use Rattle.pb_linear.specs.declared.boxes.Step.{Step}
use Rattle.pb_linear.specs.declared.vform.SymBox.{SymBox}
use Rattle.pb_graph.specs.Edges.{Choices, lower_end, span, upper_end}
use Rattle.pb_graph.specs.Expressions.{value_of}
use Rattle.pb_graph.specs.Layerings.{LayerValue, LayeringValue, steps_at}
use Rattle.pb_graph.specs.Nodes.{NodeValue}

-- ---- what a read shows at sizes for a cell
abbrev pub coordinate : ℕ → ℤ → ℤ → ℤ
coordinate axis x y = if axis == 0 then x else y

module _ (r : ReadBox) (sizes : List ℕ) (x y : ℤ) where
  -- on an axis, from low to before high
  abbrev pub low_at : ℕ → ℤ
  low_at axis = value_of (span axis r).low sizes x y

  abbrev pub high_at : ℕ → ℤ
  high_at axis = value_of (span axis r).high sizes x y

  -- a place that is read
  pub record IsRead (u v : ℤ) : Type 0 where
    pub from_x : low_at 0 ≤ℤ u
    pub before_x : u <ℤ high_at 0
    pub from_y : low_at 1 ≤ℤ v
    pub before_y : v <ℤ high_at 1

  -- all that is read stands before the cell in the direction of a step, or at the cell's own coordinate
  abbrev pub BeforeBy : ℕ → Sign → Type 0
  BeforeBy axis Plus = high_at axis ≤ℤ coordinate axis x y
  BeforeBy axis Minus = coordinate axis x y <ℤ low_at axis

  abbrev pub AtOrBeforeBy : ℕ → Sign → Type 0
  AtOrBeforeBy axis Plus = high_at axis ≤ℤ (coordinate axis x y +ℤ pos 1)
  AtOrBeforeBy axis Minus = coordinate axis x y ≤ℤ low_at axis

  -- it stands before the cell in the order of a list
  abbrev pub Fits : List Step → Type 0
  Fits [] = ⊥
  Fits (a ∷ []) = BeforeBy a.axis a.sign
  Fits (a ∷ b ∷ _) = BeforeBy a.axis a.sign ⊎ (AtOrBeforeBy a.axis a.sign × BeforeBy b.axis b.sign)

-- ---- what holds of all cells of a segment at once
abbrev pub OnEach : SymBox → List ℕ → (ℤ → ℤ → Type 0) → Type 0
OnEach area sizes P = (x y : ℤ) → InArea area sizes x y → P x y

module _ (area : SymBox) (r : ReadBox) (sizes : List ℕ) where
  -- on this axis all that they read ends before another area, or begins after it
  abbrev pub ApartOn : SymBox → ℕ → Type 0
  ApartOn other axis =
      OnEach area sizes (λ x y. high_at r sizes x y axis ≤ℤ value (lower_end axis other) sizes)
      ⊎ OnEach area sizes (λ x y. value (upper_end axis other) sizes ≤ℤ low_at r sizes x y axis)

  -- if an axis can be cut, all that they read stands at or before the cell by its sign
  abbrev pub NotAfter : ℕ → Option Sign → Type 0
  NotAfter axis cut = IfSome cut (λ sign. OnEach area sizes (λ x y. AtOrBeforeBy r sizes x y axis sign))

  -- in a layer: what they read stands before the cell in the order of the layer's list, and isn't after it on an axis that can
  -- be cut
  pub record IsServed (l : LayerValue) : Type 0 where
    pub fits : OnEach area sizes (λ x y. Fits r sizes x y l.steps)
    pub not_after_x : NotAfter 0 l.cut_x
    pub not_after_y : NotAfter 1 l.cut_y

-- a segment's read of another, by the numbers of the segments
pub record IsReadOf (c : Choices) (u v : ℕ) (reader source : NodeValue) (r : ReadBox) : Type 0 where
  pub has_reader : slice_get c.nodes u ≡ Some reader
  pub has_source : slice_get c.nodes v ≡ Some source
  pub declared : Contains c.reads r
  pub chosen : Contains reader.rules r.rule
  pub matrix : r.matrix ≡ source.matrix

-- one way for all cells of a segment in which its read of another is no obstacle to a layering: they stay apart on an axis, or the
-- other is in a lower layer, or both are in a layer that serves the read
abbrev pub IsHandled : LayeringValue → List ℕ → ℕ → ℕ → NodeValue → NodeValue → ReadBox → Type 0
IsHandled l sizes u v reader source r =
    (ApartOn reader.area r sizes source.area 0 ⊎ ApartOn reader.area r sizes source.area 1)
    ⊎ ((slice_index l.layer v < slice_index l.layer u)
    ⊎ ((layer : LayerValue) × (slice_index l.layer v ≡ slice_index l.layer u) × (slice_get l.layers (slice_index l.layer u) ≡ Some layer) × IsServed reader.area r sizes layer))

-- ---- ranks
-- the layer of a cell, and its place in the order of the layer's list
pub record Rank : Type 0 where
  pub layer : ℕ
  pub first : ℤ
  pub second : ℤ

abbrev pub signed : Sign → ℤ → ℤ
signed Plus z = z
signed Minus z = pos 0 -ℤ z

abbrev pub along : Step → ℤ → ℤ → ℤ
along step x y = signed step.sign (coordinate step.axis x y)

-- the rank of a cell in a layer with this list; 0 in the place of a step that isn't there
abbrev pub rank_by : ℕ → List Step → ℤ → ℤ → Rank
rank_by layer [] x y = record { layer = layer; first = pos 0; second = pos 0 }
rank_by layer (a ∷ []) x y = record { layer = layer; first = along a x y; second = pos 0 }
rank_by layer (a ∷ b ∷ _) x y = record { layer = layer; first = along a x y; second = along b x y }

-- of a cell of the segment with this number
abbrev pub rank_in : LayeringValue → ℕ → ℤ → ℤ → Rank
rank_in l u x y = rank_by (slice_index l.layer u) (steps_at l.layers (slice_index l.layer u)) x y

-- compared part by part
abbrev pub IsBelow : Rank → Rank → Type 0
IsBelow a b = (a.layer < b.layer) ⊎ ((a.layer ≡ b.layer) × ((a.first <ℤ b.first) ⊎ ((a.first ≡ b.first) × (a.second <ℤ b.second))))
