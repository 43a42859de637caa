-- The report of a transform: its segments with their rules and layers, what segments read of each other, and its sites.
use Rattle.std.specs.Prelude.{ℕ, ◌==◌, Bool, false, ◌||◌, if◌then◌else◌, List, [], ◌++◌, map, Option, Some, None, codes, decimal, slice_get}
use Rattle.std.specs.List.{enumerate_from, flat_map, join_with_byte}
use Rattle.pb_linear.specs.declared.boxes.Sign.{Sign}
use Rattle.pb_linear.specs.declared.boxes.Sign.TheVariants.{Plus, Minus}
use Rattle.pb_linear.specs.declared.boxes.Step.{Step}
use Rattle.pb_graph.specs.Edges.{EdgeValue}
use Rattle.pb_graph.specs.Layerings.{LayerValue, LayeringValue}
use Rattle.pb_graph.specs.Nodes.{NodeValue}
use Rattle.pb_program.specs.Configs.{SiteValue}
use Rattle.pb_program.specs.Forms.{DeclValue}
use Rattle.pb_program.specs.Trees.{ProgTransform}
use Rattle.pb_check.specs.Orders.{AnalysisValue, of_each}
use Rattle.pb_check.specs.Sites.{sites_of}
use Rattle.pb_lines.specs.Lines.{axis_text, decl_text, segment_text}

-- `{0,1}`
abbrev pub set_text : List ℕ → List ℕ
set_text set = codes "{" ++ (join_with_byte 44 (map decimal set) ++ codes "}")

abbrev pub rules_text : List ℕ → List ℕ
rules_text rules = codes " rules " ++ set_text rules

-- ---- segments
abbrev pub sign_text : Sign → List ℕ
sign_text Plus = codes "+"
sign_text Minus = codes "-"

-- ` x+`
abbrev pub step_text : Step → List ℕ
step_text step = codes " " ++ (axis_text step.axis ++ sign_text step.sign)

-- ` direction x+ y+`, where segments of the layer read each other
abbrev pub direction_text : LayerValue → List ℕ
direction_text layer = if layer.inner then codes " direction" ++ flat_map step_text layer.steps else []

abbrev pub direction_at : Option LayerValue → List ℕ
direction_at None = []
direction_at (Some layer) = direction_text layer

-- ` layer 1 direction x+`
abbrev pub layer_text : List LayerValue → ℕ → List ℕ
layer_text layers place = (codes " layer " ++ decimal place) ++ direction_at (slice_get layers place)

abbrev pub layer_at : List LayerValue → Option ℕ → List ℕ
layer_at layers None = []
layer_at layers (Some place) = layer_text layers place

-- `segment B[1,n) rules {0,1} layer 1 direction x+`
abbrev pub segment_line : ProgTransform → LayeringValue → ℕ × NodeValue → List ℕ
segment_line t order s =
    codes "segment " ++ (segment_text t s.1 ++ (rules_text s.1.rules ++ (layer_at order.layers (slice_get order.layer s.0) ++ codes "\n")))

-- ---- edges
-- what the line of an edge says of a segment: its text, and whether its matrix has two dimensions
pub record LabelValue : Type 0 where
  pub text : List ℕ
  pub plane : Bool

abbrev pub has_plane : Option DeclValue → Bool
has_plane None = false
has_plane (Some d) = d.dims == 2

abbrev pub label_of : ProgTransform → NodeValue → LabelValue
label_of t s = record { text = segment_text t s; plane = has_plane (slice_get t.matrices s.matrix) }

abbrev pub label_text : Option LabelValue → List ℕ
label_text None = []
label_text (Some label) = label.text

abbrev pub is_plane : Option LabelValue → Bool
is_plane None = false
is_plane (Some label) = label.plane

abbrev pub mark_text : ℕ → List ℕ
mark_text mark =
    if mark == 0 then codes "="
    else if mark == 1 then codes "<"
    else if mark == 2 then codes ">"
    else if mark == 3 then codes "<="
    else if mark == 4 then codes ">="
    else codes "*"

-- ` x< y=`, or ` x<` where neither matrix has two dimensions
abbrev pub axes_text : Bool → ℕ → ℕ → List ℕ
axes_text plane mark_x mark_y = (codes " x" ++ mark_text mark_x) ++ (if plane then codes " y" ++ mark_text mark_y else [])

abbrev pub marks_text : Bool → EdgeValue → List ℕ
marks_text plane e = if e.wide then codes " wide" else axes_text plane e.mark_x e.mark_y

-- `edge B[1,n) to B[0,1) rules {1} x<`, with the labels of all segments
abbrev pub edge_line : List LabelValue → EdgeValue → List ℕ
edge_line labels e =
    let reader = slice_get labels e.reader in
    let source = slice_get labels e.source in
    codes "edge " ++ (label_text reader ++ (codes " to " ++ (label_text source ++ (rules_text e.rules ++ (marks_text (is_plane reader || is_plane source) e ++ codes "\n")))))

-- ---- sites
-- `site RollingSum.B {0,1}`
abbrev pub site_line : ProgTransform → SiteValue → List ℕ
site_line t site = codes "site " ++ (t.name.bytes ++ (decl_text (slice_get t.matrices site.matrix) ++ (codes " " ++ (set_text site.set ++ codes "\n"))))

-- ---- the report
abbrev pub transform_line : ProgTransform → List ℕ
transform_line t = codes "transform " ++ (t.name.bytes ++ codes "\n")

abbrev pub transform_report : ProgTransform → List NodeValue → LayeringValue → List SiteValue → List ℕ
transform_report t nodes order sites =
    transform_line t
    ++ (flat_map (segment_line t order) (enumerate_from 0 nodes)
    ++ (flat_map (edge_line (map (label_of t) nodes)) order.edges
    ++ flat_map (site_line t) sites))

-- the reports of all transforms of a program, one after the other
abbrev pub report_text : List ProgTransform → List AnalysisValue → List ℕ
report_text p found = of_each (λ number t a. transform_report t a.nodes a.order (sites_of number t a.nodes)) 0 p found
