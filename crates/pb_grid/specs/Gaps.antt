-- What lies between neighbouring cuts of an axis, with the boxes that hold it.
use Rattle.std.specs.Prelude.{◌≡◌, ℕ, Option, Some, option_map, Bool, ◌&&◌, if◌then◌else◌, List, [], ◌∷◌, map}
use Rattle.std.specs.List.{find, list_all}
use Rattle.pb_linear.specs.RuleBox.{Bounds}
use Rattle.pb_linear.specs.declared.form.Form.{Form}
use Rattle.pb_linear.specs.declared.vform.SymBox.{SymBox}
use Rattle.pb_grid.specs.declared.axis.Axis.{Axis}
use Rattle.pb_grid.specs.declared.refusal.GridRefusal.{GridRefusal}
use Rattle.pb_grid.specs.declared.refusal.GridRefusal.TheVariants.{Uncovered}
use Rattle.pb_grid.specs.declared.segments.Holder.{Holder}
use Rattle.pb_grid.specs.Segments.{SegmentValue, area_of, best, holder_of, holders, holds_on}

-- a gap as contracts see it
pub record GapValue : Type 0 where
  pub low : Form
  pub high : Form
  pub held : List Bool

-- the gap between two cuts
abbrev pub gap_of : List ℕ → Axis → List Bounds → Form × Form → GapValue
gap_of leasts a boxes cuts = record { low = cuts.0; high = cuts.1; held = map (holds_on leasts a cuts) boxes }

-- the elements at which both flags are set
abbrev pub both_held : {A : Type 0} → List Bool → List Bool → List A → List A
both_held (p ∷ ps) (q ∷ qs) (x ∷ xs) = if p && q then x ∷ both_held ps qs xs else both_held ps qs xs
both_held _ _ _ = []

-- a segment's area with the rules that have a box that holds it
pub record HeldValue : Type 0 where
  pub area : SymBox
  pub holders : List Holder

-- the segment between two gaps
abbrev pub held_by : List Bounds → GapValue → GapValue → HeldValue
held_by boxes x y = record { area = area_of (x.low, x.high) (y.low, y.high); holders = map holder_of (both_held x.held y.held boxes) }

-- the segment of an area
abbrev pub held_of : List ℕ → List Bounds → SymBox → HeldValue
held_of leasts boxes s = record { area = s; holders = holders leasts boxes s }

-- what its cells are made by
abbrev pub made : HeldValue → SegmentValue
made h = record { area = h.area; rules = best h.holders }

-- no unguarded rule covers it
abbrev pub is_bare : HeldValue → Bool
is_bare h = list_all (λ k. k.guarded) h.holders

-- the area of the first such segment
abbrev pub bare_area : List HeldValue → Option SymBox
bare_area hs = option_map (λ (h : HeldValue). h.area) (find is_bare hs)

-- the refusal of it
abbrev pub IsBareRefused : List HeldValue → GridRefusal → Type 0
IsBareRefused hs (Uncovered area) = bare_area hs ≡ Some area
IsBareRefused hs _ = ⊥
