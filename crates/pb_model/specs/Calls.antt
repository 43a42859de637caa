-- The outcomes of the cells of a call, each by the equation of its chosen rule; and the answer of a run.
use Rattle.std.specs.Prelude.{◌≡◌, ℕ, suc, ◌+◌, ◌<◌, ◌≤◌, pos, nat_lt, IsSome, Bool, IsTrue, IsFalse, List, [], ◌∷◌, ◌++◌, map, drop, length, Option, Some, None, ◌⊎◌, if◌then◌else◌, slice_get, slice_index_or, unwrap_or}
use Rattle.std.specs.List.{AllByRecursion, Contains}
use Rattle.std.specs.Option.{option_map_or}
use Rattle.pb_linear.specs.Numbers.{exact_value}
use Rattle.pb_values.specs.declared.outcome.Outcome.{Outcome}
use Rattle.pb_values.specs.declared.outcome.Outcome.TheVariants.{Value, Trapped}
use Rattle.pb_values.specs.declared.outcome.Trap.{Trap}
use Rattle.pb_base.specs.Systems.{System, outcome}
use Rattle.pb_program.specs.declared.rule.RuleKind.{RuleKind}
use Rattle.pb_program.specs.declared.rule.RuleKind.TheVariants as kind
use Rattle.pb_program.specs.Areas.{Area, from_start}
use Rattle.pb_program.specs.Configs.{ConfigValue}
use Rattle.pb_program.specs.Forms.{DeclValue}
use Rattle.pb_program.specs.Trees.{ProgRule, ProgTransform}
use Rattle.pb_model.specs.Cells.{Cell, cells_of, natural, reads}
use Rattle.pb_model.specs.Chosen.{chosen_rule}
use Rattle.pb_model.specs.Equations.{own_outcome, rule_gives}
use Rattle.pb_model.specs.Grids.{Grid, no_grid, at_place}

-- ---- matrices of outcomes
abbrev pub Outcomes : Type 0
Outcomes = Grid Outcome

-- stands where there is none
abbrev pub no_outcome : Outcome
no_outcome = Value (pos 0)

-- the outcome of a cell in these matrices, if it is there
unfoldable pub in_matrices : List Outcomes → Cell → Option Outcome
in_matrices ms c = at_place (slice_index_or ms c.matrix no_grid) c.x c.y

abbrev pub outcome_in : List Outcomes → Cell → Outcome
outcome_in ms c = unwrap_or (in_matrices ms c) no_outcome

-- ---- the cells that rules make
abbrev pub whole_area : List ℕ → DeclValue → Area
whole_area sizes d = record { x = from_start (exact_value d.w sizes); y = from_start (exact_value d.h sizes) }

-- the cells of the matrix with this number, row by row
abbrev pub matrix_cells : List ℕ → ℕ → DeclValue → List Cell
matrix_cells sizes m d = cells_of m (whole_area sizes d)

-- the cells of these matrices, whose numbers begin here
abbrev pub cells_from : List ℕ → ℕ → List DeclValue → List Cell
cells_from sizes m [] = []
cells_from sizes m (d ∷ rest) = matrix_cells sizes m d ++ cells_from sizes (m + 1) rest

-- the cells of the matrices after `through` and `to`, in declared order
unfoldable pub made_cells : ProgTransform → List ℕ → List Cell
made_cells t sizes = cells_from sizes t.inputs (drop t.inputs t.matrices)

-- ---- the equations of a call
-- what a plan makes of a cell: of its number, the rule, the cell and the outcomes of what it reads
abbrev pub Plans : Type 0
Plans = ℕ → ProgRule → Cell → List Outcome → Outcome

module _ (config : ConfigValue) (plans : Plans) (number : ℕ) (t : ProgTransform) (sizes : List ℕ) where
  -- the rule that the configuration chooses for a cell
  abbrev pub rule_of : Cell → Option ProgRule
  rule_of c = slice_get t.rules (chosen_rule config number t sizes c)

  -- what it makes of the outcomes of what it reads
  abbrev pub made_by : RuleKind → ProgRule → Cell → List Outcome → Outcome
  made_by kind.Plan r c seen = plans (chosen_rule config number t sizes c) r c seen
  made_by _ r c seen = own_outcome t.matrices sizes c r (rule_gives t.matrices sizes c number (chosen_rule config number t sizes c) r seen)

  -- the cells that a cell is made from, and its outcome by theirs
  unfoldable pub cell_reads : Cell → List Cell
  cell_reads c = option_map_or (reads t.matrices sizes c) (rule_of c) []

  unfoldable pub cell_equation : Cell → List Outcome → Outcome
  cell_equation c seen = option_map_or (λ r. made_by r.kind r c seen) (rule_of c) no_outcome

  -- the cells of the matrices after `from` are given, and each other cell has the equation of its chosen rule
  abbrev pub equations : List Outcomes → System Cell Outcome
  equations ins = record {
    given = λ c. if nat_lt c.matrix t.inputs then in_matrices ins c else None;
    reads = cell_reads;
    equation = cell_equation;
  }

  -- the outcome of a cell, by recursion over what it reads, with a count from above: one more than there are cells to make
  unfoldable pub cell_outcome : List Outcomes → Cell → Outcome
  cell_outcome ins c = outcome (equations ins) (suc (length (made_cells t sizes))) no_outcome c

  -- the matrices after `through` and `to`, which a call makes
  abbrev pub made_matrix : List Outcomes → ℕ → DeclValue → Outcomes
  made_matrix ins m d = record {
    width = natural (exact_value d.w sizes);
    height = natural (exact_value d.h sizes);
    cells = map (cell_outcome ins) (matrix_cells sizes m d);
  }

  abbrev pub made_from : List Outcomes → ℕ → List DeclValue → List Outcomes
  made_from ins m [] = []
  made_from ins m (d ∷ rest) = made_matrix ins m d ∷ made_from ins (m + 1) rest

  unfoldable pub call_of : List Outcomes → List Outcomes
  call_of ins = made_from ins t.inputs (drop t.inputs t.matrices)

  -- over these matrices each cell that is made has an outcome, and so has each cell that it reads; and it is what its chosen
  -- rule makes of theirs
  pub record IsSettled (ms : List Outcomes) : Type 0 where
    pub here : (c : Cell) → Contains (made_cells t sizes) c → IsSome (in_matrices ms c)
    pub there : (c : Cell) → Contains (made_cells t sizes) c → AllByRecursion (λ d. IsSome (in_matrices ms d)) (cell_reads c)
    pub equation : (c : Cell) → Contains (made_cells t sizes) c → outcome_in ms c ≡ cell_equation c (map (outcome_in ms) (cell_reads c))

  -- in an order of the cells each reads what is given or comes before it
  pub record ReadsBefore (before : Cell → Cell → Bool) (ins : List Outcomes) : Type 0 where
    pub irreflexive : (c : Cell) → IsFalse (before c c)
    pub transitive : (a b c : Cell) → IsTrue (before a b) → IsTrue (before b c) → IsTrue (before a c)
    pub falls : (c : Cell) → Contains (made_cells t sizes) c → AllByRecursion (λ d. ((d.matrix < t.inputs) × IsSome (in_matrices ins d)) ⊎ ((t.inputs ≤ d.matrix) × Contains (made_cells t sizes) d × IsTrue (before d c))) (cell_reads c)

-- ---- the answer of a run
-- the first of some cells that is trapped, with its trap
pub record TrappedCell : Type 0 where
  pub cell : Cell
  pub trap : Trap

abbrev pub or_trapped : Cell → Outcome → Option TrappedCell → Option TrappedCell
or_trapped c (Trapped t) later = Some (record { cell = c; trap = t })
or_trapped c (Value v) later = later

abbrev pub first_trapped : List Outcomes → List Cell → Option TrappedCell
first_trapped ms [] = None
first_trapped ms (c ∷ cells) = or_trapped c (outcome_in ms c) (first_trapped ms cells)
