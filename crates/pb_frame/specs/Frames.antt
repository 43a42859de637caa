-- What one instance of a transform makes: its segments with their chosen rules, and what is made at once, layer by layer.
use Rattle.std.specs.Prelude.{◌≡◌, ℕ, ◌+◌, ◌-◌, ◌*◌, max, min, nat_lt, ◌&&◌, ◌==◌, not, Bool, false, List, [], ◌∷◌, ◌++◌, filter, map, length, Option, Some, None, slice_get, slice_index}
use Rattle.std.specs.Int.{div_ceil}
use Rattle.std.specs.List.{enumerate_from, flat_map, list_any, range_with_len}
use Rattle.std.specs.Option.{option_map_or}
use Rattle.pb_linear.specs.Form.{value}
use Rattle.pb_linear.specs.Sizes.{sizes_of}
use Rattle.pb_linear.specs.declared.boxes.Sign.{Sign}
use Rattle.pb_linear.specs.declared.boxes.Sign.TheVariants.{Plus, Minus}
use Rattle.pb_linear.specs.declared.sizes.Sizes.{Sizes}
use Rattle.pb_values.specs.Views.{HasPlace}
use Rattle.pb_values.specs.declared.rect.Rect.{Rect}
use Rattle.pb_graph.specs.Layerings.{LayerValue, LayeringValue}
use Rattle.pb_graph.specs.Nodes.{NodeValue}
use Rattle.pb_program.specs.Configs.{ConfigValue}
use Rattle.pb_program.specs.Trees.{ProgTransform}
use Rattle.pb_region.specs.Boxes.{is_wide}
use Rattle.pb_model.specs.Cells.{Cell, natural}
use Rattle.pb_model.specs.Chosen.{chosen_rule}
use Rattle.pb_check.specs.Orders.{AnalysisValue}
use Rattle.pb_frame.specs.declared.part.FramePart.{FramePart}

-- ---- rectangles
-- a rectangle has a place
abbrev pub has_place : Rect → Bool
has_place r = nat_lt r.x0 r.x1 && nat_lt r.y0 r.y1

-- the places of two rectangles
abbrev pub cut_by : Rect → Rect → Rect
cut_by square r = record { x0 = max r.x0 square.x0; y0 = max r.y0 square.y0; x1 = min r.x1 square.x1; y1 = min r.y1 square.y1 }

-- ---- parts
-- where a segment lies
abbrev pub rect_of : NodeValue → List ℕ → Rect
rect_of n sizes = record {
  x0 = natural (value n.area.x0 sizes);
  y0 = natural (value n.area.y0 sizes);
  x1 = natural (value n.area.x1 sizes);
  y1 = natural (value n.area.y1 sizes);
}

-- its cell of least place
abbrev pub corner_of : NodeValue → List ℕ → Cell
corner_of n sizes = record { matrix = n.matrix; x = (rect_of n sizes).x0; y = (rect_of n sizes).y0 }

abbrev pub part_of : ConfigValue → ℕ → ProgTransform → List ℕ → ℕ × NodeValue → FramePart
part_of config number t sizes n = record { node = n.0; rect = rect_of n.1 sizes; rule = chosen_rule config number t sizes (corner_of n.1 sizes) }

abbrev pub has_cell : List ℕ → ℕ × NodeValue → Bool
has_cell sizes n = has_place (rect_of n.1 sizes)

-- each segment that has a cell, by number, with the rule that is chosen for its cells
abbrev pub parts_of : ConfigValue → ℕ → ProgTransform → List ℕ → List NodeValue → List FramePart
parts_of config number t sizes nodes = map (part_of config number t sizes) (filter (has_cell sizes) (enumerate_from 0 nodes))

-- a part holds a cell
pub record HoldsCell (nodes : List NodeValue) (part : FramePart) (c : Cell) : Type 0 where
  pub node : NodeValue
  pub there : slice_get nodes part.node ≡ Some node
  pub matrix : node.matrix ≡ c.matrix
  pub place : HasPlace part.rect c.x c.y

-- ---- layers
-- those of some parts that lie in a layer
abbrev pub is_in_layer : LayeringValue → ℕ → FramePart → Bool
is_in_layer order layer part = slice_index order.layer part.node == layer

abbrev pub in_layer : LayeringValue → List FramePart → ℕ → List FramePart
in_layer order parts layer = filter (is_in_layer order layer) parts

-- the rule with a number is one for single cells; or isn't
abbrev pub is_cell_rule : ProgTransform → ℕ → Bool
is_cell_rule t k = option_map_or (λ r. not (is_wide r.kind)) (slice_get t.rules k) false

abbrev pub is_wide_rule : ProgTransform → ℕ → Bool
is_wide_rule t k = option_map_or (λ r. is_wide r.kind) (slice_get t.rules k) false

-- what is made at once: the parts of a block of a layer, or all of a layer that a rule makes
pub record JobValue : Type 0 where
  pub layer : ℕ
  pub rule : Option ℕ
  pub parts : List FramePart

-- ---- rules that make more than a cell at once
abbrev pub of_rule : ℕ → List FramePart → List FramePart
of_rule k parts = filter (λ part. part.rule == k) parts

-- those that are chosen for some of these parts, by number
abbrev pub chosen_wides : ProgTransform → List FramePart → List ℕ
chosen_wides t parts = filter (λ k. is_wide_rule t k && list_any (λ part. part.rule == k) parts) (range_with_len 0 (length t.rules))

abbrev pub wide_job : ℕ → List FramePart → ℕ → JobValue
wide_job layer parts k = record { layer = layer; rule = Some k; parts = of_rule k parts }

-- ---- blocks
abbrev pub greatest : List ℕ → ℕ
greatest [] = 0
greatest (n ∷ ns) = max n (greatest ns)

-- the side of the blocks of an axis on which a layer's parts end before `top`: the grain, or the least side by which at most
-- 16 blocks reach `top`, where that is greater; and 1 at least
abbrev pub block_side : ℕ → ℕ → ℕ
block_side grain top = max 1 (max grain (div_ceil top 16))

-- the block with a number on such an axis, from its first place to before its end
abbrev pub block_at : ℕ → ℕ → ℕ → ℕ × ℕ
block_at side top k = (k * side, min (k * side + side) top)

-- the number of the block that comes at a place among so many, by the axis's sign
abbrev pub number_by : Sign → ℕ → ℕ → ℕ
number_by Plus count place = place
number_by Minus count place = count - 1 - place

abbrev pub cut_spans : Sign → ℕ → ℕ → List (ℕ × ℕ)
cut_spans sign side top = map (λ place. block_at side top (number_by sign (div_ceil top side) place)) (range_with_len 0 (div_ceil top side))

-- the blocks of an axis on which a layer's parts end before `top`, in their order: as many as reach `top`, by the axis's sign,
-- where it can be cut; else one
unfoldable pub spans : Option Sign → ℕ → ℕ → List (ℕ × ℕ)
spans (Some sign) grain top = cut_spans sign (block_side grain top) top
spans None grain top = (0, top) ∷ []

abbrev pub square : ℕ × ℕ → ℕ × ℕ → Rect
square x y = record { x0 = x.0; y0 = y.0; x1 = x.1; y1 = y.1 }

-- the blocks of a layer, by x and then by y
abbrev pub squares : LayerValue → ℕ → List FramePart → List Rect
squares layer grain parts =
    flat_map (λ x. map (square x) (spans layer.cut_y grain (greatest (map (λ part. part.rect.y1) parts))))
    (spans layer.cut_x grain (greatest (map (λ part. part.rect.x1) parts)))

-- what a block has of parts that are made cell by cell
abbrev pub within : Rect → FramePart → FramePart
within square part = record { node = part.node; rect = cut_by square part.rect; rule = part.rule }

abbrev pub is_block_part : ProgTransform → Rect → FramePart → Bool
is_block_part t square part = is_cell_rule t part.rule && has_place (cut_by square part.rect)

abbrev pub block_parts : ProgTransform → List FramePart → Rect → List FramePart
block_parts t parts square = map (within square) (filter (is_block_part t square) parts)

abbrev pub has_block : ProgTransform → List FramePart → Rect → Bool
has_block t parts square = list_any (is_block_part t square) parts

-- the blocks with a cell whose rule is one for single cells
abbrev pub blocks : ProgTransform → LayerValue → ℕ → List FramePart → List Rect
blocks t layer grain parts = filter (has_block t parts) (squares layer grain parts)

abbrev pub block_job : ProgTransform → ℕ → List FramePart → Rect → JobValue
block_job t layer parts square = record { layer = layer; rule = None; parts = block_parts t parts square }

-- ---- an instance
-- the jobs of a layer, which has a number: those of rules that make more than a cell, by number; then its blocks
abbrev pub layer_jobs : ProgTransform → ℕ → List FramePart → ℕ × LayerValue → List JobValue
layer_jobs t grain parts l = map (wide_job l.0 parts) (chosen_wides t parts) ++ map (block_job t l.0 parts) (blocks t l.1 grain parts)

pub record FrameValue : Type 0 where
  pub sizes : Sizes
  pub parts : List FramePart
  pub blocks : List (ℕ × Rect)
  pub wides : List (ℕ × ℕ)
  pub jobs : List JobValue

-- the tasks of an instance of a transform, of which this was found, at sizes
pub record IsFrame (config : ConfigValue) (number : ℕ) (t : ProgTransform) (a : AnalysisValue) (grain : ℕ) (f : FrameValue) : Type 0 where
  pub parts : f.parts ≡ parts_of config number t (sizes_of f.sizes) a.nodes
  pub blocks : f.blocks ≡ flat_map (λ l. map (λ b. (l.0, b)) (blocks t l.1 grain (in_layer a.order f.parts l.0))) (enumerate_from 0 a.order.layers)
  pub wides : f.wides ≡ flat_map (λ l. map (λ k. (l.0, k)) (chosen_wides t (in_layer a.order f.parts l.0))) (enumerate_from 0 a.order.layers)
  pub jobs : f.jobs ≡ flat_map (λ l. layer_jobs t grain (in_layer a.order f.parts l.0) l) (enumerate_from 0 a.order.layers)
