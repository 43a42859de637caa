-- The signs by which layers can be cut, by what all edges inside of them allow.
use Rattle.std.specs.Prelude.{ℕ, ◌==◌, Bool, true, ◌&&◌, ◌||◌, not, if◌then◌else◌, List, [], Option, Some, None, slice_index, slice_index_or}
use Rattle.std.specs.List.{list_all}
use Rattle.pb_layers.specs.declared.layers.Layer.{Layer}
use Rattle.pb_layers.specs.declared.refusal.LayersRefusal.{LayersRefusal}
use Rattle.pb_layers.specs.declared.refusal.LayersRefusal.TheVariants as layers
use Rattle.pb_linear.specs.declared.boxes.Sign.{Sign}
use Rattle.pb_linear.specs.declared.boxes.Sign.TheVariants.{Plus, Minus}
use Rattle.pb_linear.specs.declared.boxes.Step.{Step}
use Rattle.pb_graph.specs.declared.seen.EdgeSides.{EdgeSides}
use Rattle.pb_graph.specs.declared.seen.Sides.{Sides}
use Rattle.pb_graph.specs.declared.refusal.GraphRefusal.{GraphRefusal}
use Rattle.pb_graph.specs.declared.refusal.GraphRefusal.TheVariants.{NoOrder, Memory}
use Rattle.pb_graph.specs.Edges.{lists}
use Rattle.pb_graph.specs.Layerings.{LayerValue, sign_in}

abbrev pub allows : Sides → ℕ → Sign → Bool
allows s axis Plus = if axis == 0 then s.x_plus else s.y_plus
allows s axis Minus = if axis == 0 then s.x_minus else s.y_minus

-- where nothing is read, all is allowed
abbrev pub all_sides : Sides
all_sides = record { x_plus = true; x_minus = true; y_plus = true; y_minus = true }

abbrev pub both_sides : Sides → Sides → Sides
both_sides a b = record { x_plus = a.x_plus && b.x_plus; x_minus = a.x_minus && b.x_minus; y_plus = a.y_plus && b.y_plus; y_minus = a.y_minus && b.y_minus }

-- both ends of an edge are in a layer
abbrev pub is_inside : List ℕ → ℕ → EdgeSides → Bool
is_inside layer place e = (slice_index layer e.reader == place) && (slice_index layer e.source == place)

module _ (layer : List ℕ) (place : ℕ) (edges : List EdgeSides) where
  -- a test of all edges inside of it
  abbrev pub all_inside : (Sides → Bool) → Bool
  all_inside test = list_all (λ e. not (is_inside layer place e) || test e.sides) edges

  abbrev pub allowed_at : Sides
  allowed_at = record { x_plus = all_inside (λ s. s.x_plus); x_minus = all_inside (λ s. s.x_minus); y_plus = all_inside (λ s. s.y_plus); y_minus = all_inside (λ s. s.y_minus) }

-- for an axis of the list its own sign, if it is allowed; for another plus, else minus, else none
abbrev pub cut_by : Sides → ℕ → Option Sign → Option Sign
cut_by s axis (Some sign) = if allows s axis sign then Some sign else None
cut_by s axis None = if allows s axis Plus then Some Plus else if allows s axis Minus then Some Minus else None

abbrev pub layer_by : Sides → Layer → LayerValue
layer_by s l =
    let steps : List Step = slice_index_or lists l.list [] in
    record { steps = steps; inner = l.inner; cut_x = cut_by s 0 (sign_in steps 0); cut_y = cut_by s 1 (sign_in steps 1) }

-- the refusal of segments by that of their numbers
abbrev pub refusal_of : LayersRefusal → GraphRefusal
refusal_of (layers.NoOrder nodes) = NoOrder nodes
refusal_of layers.Memory = Memory
