-- What a job makes and reads, as rectangles of the matrices of its transform.
use Rattle.std.specs.Prelude.{◌≡◌, ℕ, ◌-◌, ◌<◌, ◌≤◌, ◌^◌, pos, List, [], length, map, Option, Some, None, slice_get}
use Rattle.std.specs.List.{All, flat_map}
use Rattle.std.specs.Option.{option_map_or}
use Rattle.pb_linear.specs.Numbers.{exact_value}
use Rattle.pb_values.specs.declared.rect.Rect.{Rect}
use Rattle.pb_graph.specs.Nodes.{NodeValue}
use Rattle.pb_program.specs.declared.view.Read.{Read}
use Rattle.pb_program.specs.Areas.{Area, area_of}
use Rattle.pb_program.specs.Forms.{DeclValue}
use Rattle.pb_program.specs.Trees.{ProgRule, ProgTransform}
use Rattle.pb_region.specs.Small.{IsSmallRule}
use Rattle.pb_region.specs.Within.{IsWithin}
use Rattle.pb_model.specs.Cells.{natural}
use Rattle.pb_model.specs.Equations.{shown_area}
use Rattle.pb_views.specs.Hulls.{joined}
use Rattle.pb_frame.specs.Frames.{JobValue}
use Rattle.pb_frame.specs.declared.part.FramePart.{FramePart}
use Rattle.pb_links.specs.Spots.{PlacesValue}
use Rattle.pb_links.specs.declared.places.Spot.{Spot}

-- the rectangle of an area
abbrev pub rect_from : Area → Rect
rect_from a = record { x0 = natural a.x.low; y0 = natural a.y.low; x1 = natural a.x.high; y1 = natural a.y.high }

module _ (matrices : List DeclValue) (sizes : List ℕ) where
  -- what a view shows for rule variables
  abbrev pub shown_at : Read → ℕ → ℕ → Area
  shown_at r x y = shown_area matrices sizes (record { matrix = 0; x = x; y = y }) r

  -- on each axis from the least lower end to the greatest upper end, over the corner cells of a part
  unfoldable pub part_area : Rect → Read → Area
  part_area p r = joined (joined (shown_at r p.x0 p.y0) (shown_at r (p.x1 - 1) p.y0)) (joined (shown_at r p.x0 (p.y1 - 1)) (shown_at r (p.x1 - 1) (p.y1 - 1)))

  -- what a view shows, for all cells of a part, and where no rule variable plays a part
  abbrev pub part_box : Rect → Read → Spot
  part_box p r = record { base = r.matrix; rect = rect_from (part_area p r) }

  abbrev pub whole_box : Read → Spot
  whole_box r = record { base = r.matrix; rect = rect_from (shown_at r 0 0) }

  -- views lie within their matrices
  abbrev pub IsReadable : List Read → ℕ → ℕ → Type 0
  IsReadable reads x y = (k : ℕ) (r : Read) (d : DeclValue) → slice_get reads k ≡ Some r → slice_get matrices r.matrix ≡ Some d
      → IsWithin (area_of sizes (pos x) (pos y) r d) (exact_value d.w sizes) (exact_value d.h sizes)

-- where a part lies
abbrev pub spot_of : List NodeValue → FramePart → Spot
spot_of nodes part = record { base = option_map_or (λ n. n.matrix) (slice_get nodes part.node) 0; rect = part.rect }

module _ (t : ProgTransform) (sizes : List ℕ) where
  -- the boxes of a rule that makes more than a cell, by its number
  abbrev pub whole_boxes : ℕ → List Spot
  whole_boxes k = option_map_or (λ rule. map (whole_box t.matrices sizes) rule.reads) (slice_get t.rules k) []

  -- the boxes of a part whose cells are made one by one
  abbrev pub part_boxes : FramePart → List Spot
  part_boxes part = option_map_or (λ rule. map (part_box t.matrices sizes part.rect) rule.reads) (slice_get t.rules part.rule) []

  abbrev pub boxes_by : Option ℕ → List FramePart → List Spot
  boxes_by (Some k) parts = whole_boxes k
  boxes_by None parts = flat_map part_boxes parts

abbrev pub places_of : ProgTransform → List NodeValue → List ℕ → JobValue → PlacesValue
places_of t nodes sizes job = record { parts = map (spot_of nodes) job.parts; boxes = boxes_by t sizes job.rule job.parts }

-- ---- when boxes can be found
-- a part has a cell, its numbers are small, and views lie within their matrices at its corners
pub record IsBoxed (matrices : List DeclValue) (sizes : List ℕ) (reads : List Read) (part : Rect) : Type 0 where
  pub wide : part.x0 < part.x1
  pub tall : part.y0 < part.y1
  pub right : part.x1 ≤ 2 ^ 23
  pub high : part.y1 ≤ 2 ^ 23
  pub first : IsReadable matrices sizes reads part.x0 part.y0
  pub second : IsReadable matrices sizes reads (part.x1 - 1) part.y0
  pub third : IsReadable matrices sizes reads part.x0 (part.y1 - 1)
  pub fourth : IsReadable matrices sizes reads (part.x1 - 1) (part.y1 - 1)

-- the rules of a job are there, small, and can be boxed
pub record HasRule (t : ProgTransform) (k : ℕ) (P : ProgRule → Type 0) : Type 0 where
  pub rule : ProgRule
  pub there : slice_get t.rules k ≡ Some rule
  pub small : IsSmallRule rule
  pub matrices : All (λ (r : Read). r.matrix < length t.matrices) rule.reads
  pub is : P rule

abbrev pub IsJob : ProgTransform → List ℕ → Option ℕ → List FramePart → Type 0
IsJob t sizes (Some k) parts = HasRule t k (λ rule. IsReadable t.matrices sizes rule.reads 0 0)
IsJob t sizes None parts = All (λ (part : FramePart). HasRule t part.rule (λ rule. IsBoxed t.matrices sizes rule.reads part.rect)) parts

abbrev pub HasNodes : List NodeValue → List FramePart → Type 0
HasNodes nodes parts = All (λ (part : FramePart). part.node < length nodes) parts
