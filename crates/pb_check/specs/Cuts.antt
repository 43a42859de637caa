-- The matrices of a transform that rules make, cut into segments, or why one can't be cut.
use Rattle.std.specs.Prelude.{◌≡◌, ℕ, ◌-◌, ◌==◌, if◌then◌else◌, List, [], ◌∷◌, ◌++◌, length, map, filter, Some, slice_get}
use Rattle.std.specs.List.{All, AllZip, enumerate_from, flat_map, range_with_len}
use Rattle.pb_linear.specs.Form.{numbers}
use Rattle.pb_linear.specs.RuleBox.{Bounds}
use Rattle.pb_linear.specs.Sizes.{leasts_of}
use Rattle.pb_syntax.specs.declared.refusal.Refusal.{Refusal}
use Rattle.pb_syntax.specs.declared.refusal.Refusal.TheVariants.{Crossing, TooManySegments, Uncovered, Memory}
use Rattle.pb_grid.specs.declared.refusal.GridRefusal.{GridRefusal}
use Rattle.pb_grid.specs.declared.refusal.GridRefusal.TheVariants as grid
use Rattle.pb_grid.specs.Grids.{IsGrid, IsRefused, Matrix}
use Rattle.pb_grid.specs.Segments.{SegmentValue}
use Rattle.pb_graph.specs.Nodes.{NodeValue}
use Rattle.pb_program.specs.declared.view.Read.{Read}
use Rattle.pb_program.specs.Forms.{DeclValue}
use Rattle.pb_program.specs.Trees.{ProgRule, ProgTransform}
use Rattle.pb_region.specs.Boxes.{BoxValue, box, box_of}
use Rattle.pb_check.specs.Firsts.{IsFirst}

-- the boxes of a rule's outputs on a matrix; the rule has its number beside it
abbrev pub rule_boxes : ProgTransform → ℕ → ℕ × ProgRule → List BoxValue
rule_boxes t matrix r = map (box (leasts_of t.ranges) t.matrices r.0 r.1) (filter (λ o. o.matrix == matrix) r.1.outs)

-- those of all rules, in the order of the rules and of their outputs
abbrev pub boxes_on : ProgTransform → ℕ → List BoxValue
boxes_on t matrix = flat_map (rule_boxes t matrix) (enumerate_from 0 t.rules)

-- of some boxes, one for each output, those of the outputs on a matrix
abbrev pub kept : ℕ → List Read → List Bounds → List Bounds
kept matrix (out ∷ outs) (b ∷ bs) = if out.matrix == matrix then b ∷ kept matrix outs bs else kept matrix outs bs
kept matrix _ _ = []

-- the refusal of a program for a matrix that can't be cut, by the numbers of its transform and of the matrix
abbrev pub to_refusal : ℕ → ℕ → GridRefusal → Refusal
to_refusal t matrix (grid.Crossing axis first second over under) = Crossing t matrix axis first second over under
to_refusal t matrix grid.TooManySegments = TooManySegments t matrix
to_refusal t matrix (grid.Uncovered area) = Uncovered t matrix area
to_refusal t matrix grid.Memory = Memory

-- a segment of a matrix
abbrev pub node : ℕ → SegmentValue → NodeValue
node matrix s = record { matrix = matrix; area = s.area; rules = s.rules }

module _ (t : ProgTransform) where
  -- the matrix with this number, with its boxes and sides
  pub record IsMatrix (number : ℕ) (m : Matrix) : Type 0 where
    pub decl : DeclValue
    pub there : slice_get t.matrices number ≡ Some decl
    pub leasts : m.leasts ≡ leasts_of t.ranges
    pub boxes : map box_of m.boxes ≡ boxes_on t number
    pub width : numbers m.width ≡ decl.w
    pub height : numbers m.height ≡ decl.h

  -- it is cut into these segments
  pub record IsCut (number : ℕ) (ss : List SegmentValue) : Type 0 where
    pub matrix : Matrix
    pub is : IsMatrix number matrix
    pub grid : IsGrid matrix ss

  -- into some segments
  pub record HasCut (number : ℕ) : Type 0 where
    pub segments : List SegmentValue
    pub cut : IsCut number segments

  -- why it isn't, where the transform has the first number
  pub record IsUncut (number matrix : ℕ) (e : Refusal) : Type 0 where
    pub of : Matrix
    pub is : IsMatrix matrix of
    pub why : GridRefusal
    pub refused : IsRefused of why
    pub told : e ≡ to_refusal number matrix why

  -- the numbers of the matrices that rules make, in their order
  abbrev pub made_matrices : List ℕ
  made_matrices = range_with_len t.inputs (length t.matrices - t.inputs)

  -- each of them can be cut
  pub record AreCut : Type 0 where
    pub each : All HasCut made_matrices

  -- the first that can't, where the transform has this number
  abbrev pub FailsCut : ℕ → Refusal → Type 0
  FailsCut number e = IsFirst HasCut (λ place matrix. IsUncut number matrix e) made_matrices

  -- the segments of matrices, one matrix after the other
  abbrev pub AreNodesOf : List ℕ → List NodeValue → Type 0
  AreNodesOf [] ns = ns ≡ []
  AreNodesOf (matrix ∷ more) ns =
      (ss : List SegmentValue) × (rest : List NodeValue) × IsCut matrix ss × AreNodesOf more rest
      × (ns ≡ map (node matrix) ss ++ rest)

  -- those of all matrices that rules make
  abbrev pub AreNodes : List NodeValue → Type 0
  AreNodes ns = AreNodesOf made_matrices ns

-- what contracts see of a transform that is cut
pub record CutValue : Type 0 where
  pub nodes : List NodeValue

-- the segments of each transform
abbrev pub AreCutInto : List ProgTransform → List CutValue → Type 0
AreCutInto p cuts = AllZip (λ t (c : CutValue). AreNodes t c.nodes) p cuts
