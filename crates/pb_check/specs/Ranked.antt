-- The segment of a cell, and where the cell stands in the order in which segments are made.
use Rattle.std.specs.Prelude.{◌≡◌, ◌≤◌, ℕ, pos, List, Some, IsSomeAnd, slice_get}
use Rattle.std.specs.List.{Contains}
use Rattle.pb_linear.specs.VForm.{InArea}
use Rattle.pb_graph.specs.Nodes.{NodeValue}
use Rattle.pb_graph.specs.Ranks.{IsBelow, Rank, rank_in}
use Rattle.pb_program.specs.Trees.{ProgRule, ProgTransform, bare_prog}
use Rattle.pb_model.specs.Cells.{Cell, IsCell, ReadsCell}
use Rattle.pb_model.specs.Lawful.{lawful}
use Rattle.pb_check.specs.Accepting.{AcceptedValue}
use Rattle.pb_check.specs.Orders.{AnalysisValue}

-- a cell of a matrix that rules make
pub record IsMadeCell (t : ProgTransform) (sizes : List ℕ) (c : Cell) : Type 0 where
  pub cell : IsCell t sizes c
  pub made : t.inputs ≤ c.matrix

-- of some segments, the one with this number holds the cell
pub record IsIn (nodes : List NodeValue) (sizes : List ℕ) (c : Cell) (u : ℕ) : Type 0 where
  pub node : NodeValue
  pub there : slice_get nodes u ≡ Some node
  pub matrix : node.matrix ≡ c.matrix
  pub inside : InArea node.area sizes (pos c.x) (pos c.y)

module _ (t : ProgTransform) (a : AnalysisValue) (sizes : List ℕ) where
  -- one segment alone holds the cell, and the rules that may make the cell are among the segment's
  pub record IsCovered (c : Cell) (u : ℕ) : Type 0 where
    pub holds : IsIn a.nodes sizes c u
    pub alone : (v : ℕ) → IsIn a.nodes sizes c v → v ≡ u
    pub lawful : (rule : ℕ) → Contains (lawful t sizes c) rule → Contains holds.node.rules rule

  -- the cell has this rank
  pub record HasRank (c : Cell) (rank : Rank) : Type 0 where
    pub segment : ℕ
    pub holds : IsIn a.nodes sizes c segment
    pub is : rank ≡ rank_in a.order segment (pos c.x) (pos c.y)

  -- a cell has a rank below another
  pub record StandsBelow (rank : Rank) (c : Cell) : Type 0 where
    pub own : Rank
    pub has : HasRank c own
    pub below : IsBelow own rank

  -- and each cell that a rule reads which may make it, of a matrix that rules make, has a smaller one
  pub record IsRanked (c : Cell) (rank : Rank) : Type 0 where
    pub has : HasRank c rank
    pub falls : (number : ℕ) (rule : ProgRule) → Contains (lawful t sizes c) number → slice_get t.rules number ≡ Some rule → (shown : Cell) → ReadsCell t.matrices sizes c rule shown → IsMadeCell t sizes shown
        → StandsBelow rank shown

-- what is said of the transform with a number in an accepted program, and of what is found of it; there is one
abbrev pub OfTransform : AcceptedValue → ℕ → (ProgTransform → AnalysisValue → Type 0) → Type 0
OfTransform a t P = IsSomeAnd (slice_get (bare_prog a.program) t) (λ transform. IsSomeAnd (slice_get a.found t) (P transform))

-- there is a transform with this number, and a cell of one of the matrices that its rules make
abbrev pub HasCell : AcceptedValue → ℕ → List ℕ → Cell → Type 0
HasCell a t sizes c = IsSomeAnd (slice_get (bare_prog a.program) t) (λ transform. IsMadeCell transform sizes c)

abbrev pub cell : ℕ → ℕ → ℕ → Cell
cell matrix x y = record { matrix = matrix; x = x; y = y }
