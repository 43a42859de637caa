-- What a computing rule makes of the outcomes of the cells that it reads.
use Rattle.std.specs.Prelude.{ℕ, ◌+◌, ◌*◌, ◌-◌, ℤ, pos, ◌-ℤ◌, List, [], ◌∷◌, map, take, drop, Option, Some, None, Result, Ok, Err, if◌then◌else◌, slice_get, slice_index_or}
use Rattle.std.specs.Option.{option_map_or}
use Rattle.pb_values.specs.declared.outcome.Kind.{Kind}
use Rattle.pb_values.specs.declared.outcome.Outcome.{Outcome}
use Rattle.pb_values.specs.declared.outcome.Outcome.TheVariants.{Value, Trapped}
use Rattle.pb_values.specs.declared.outcome.Trap.{Trap}
use Rattle.pb_program.specs.declared.rule.RuleKind.{RuleKind}
use Rattle.pb_program.specs.declared.rule.RuleKind.TheVariants as kind
use Rattle.pb_program.specs.declared.view.Read.{Read}
use Rattle.pb_program.specs.declared.view.ReadView.{ReadView}
use Rattle.pb_program.specs.declared.view.ReadView.TheVariants as view
use Rattle.pb_program.specs.Areas.{Area, Span, area_of, from_start}
use Rattle.pb_program.specs.Forms.{DeclValue}
use Rattle.pb_program.specs.Stmts.{stmts}
use Rattle.pb_program.specs.Trees.{ProgRule}
use Rattle.pb_model.specs.Bodies.{Bindings, Store, left_by, outputs_from}
use Rattle.pb_model.specs.Cells.{Cell, natural}
use Rattle.pb_model.specs.Grids.{Grid}
use Rattle.pb_model.specs.Lawful.{output_holds}

-- how many numbers there are in a span
abbrev pub extent : Span → ℕ
extent s = natural (s.high -ℤ s.low)

-- the width and the height of what a view shows; a column is a view of one dimension
abbrev pub sides_by : ReadView → Area → ℕ × ℕ
sides_by view.Column a = (extent a.y, 1)
sides_by _ a = (extent a.x, extent a.y)

-- the first trap among some outcomes
unfoldable pub first_trap : List Outcome → Option Trap
first_trap [] = None
first_trap (Trapped t ∷ rest) = Some t
first_trap (Value v ∷ rest) = first_trap rest

-- the number of an outcome that is no trap
abbrev pub number_in : Outcome → ℤ
number_in (Value v) = v
number_in (Trapped t) = pos 0

-- some numbers, cut into matrices with these sides
abbrev pub cut_up : List (ℕ × ℕ) → List ℤ → List (Grid ℤ)
cut_up [] numbers = []
cut_up (sides ∷ rest) numbers =
    record { width = sides.0; height = sides.1; cells = take (sides.0 * sides.1) numbers } ∷ cut_up rest (drop (sides.0 * sides.1) numbers)

-- what no trap keeps from being made
abbrev pub unless_trapped : {A : Type 0} → Option Trap → Result A Trap → Result A Trap
unless_trapped (Some t) made = Err t
unless_trapped None made = made

-- with what is done to what is made, and to the kind of the trap
abbrev pub after_body : Result Store Kind → (Store → List ℤ) → (Kind → Trap) → Result (List ℤ) Trap
after_body (Ok st) numbers trap = Ok (numbers st)
after_body (Err k) numbers trap = Err (trap k)

-- the matrices of a transform, the sizes, and the rule variables as a cell
module _ (matrices : List DeclValue) (sizes : List ℕ) (c : Cell) where
  -- the places that a view shows
  abbrev pub shown_area : Read → Area
  shown_area r = option_map_or (area_of sizes (pos c.x) (pos c.y) r) (slice_get matrices r.matrix) (record { x = from_start (pos 0); y = from_start (pos 0) })

  abbrev pub view_sides : Read → ℕ × ℕ
  view_sides r = sides_by r.view (shown_area r)

  -- the lowest corner of the first output
  abbrev pub corner : List Read → ℕ × ℕ
  corner [] = (0, 0)
  corner (o ∷ rest) = (natural (shown_area o).x.low, natural (shown_area o).y.low)

  -- where a trap of a rule stands: at the cell of a rule for single cells, else at the lowest corner of the first output
  abbrev pub trap_place : RuleKind → List Read → ℕ × ℕ
  trap_place kind.Cell outs = (c.x, c.y)
  trap_place _ outs = corner outs

  -- a trap of the rule of these numbers
  abbrev pub trap_of : ℕ → ℕ → ProgRule → Kind → Trap
  trap_of transform rule r k =
      record { kind = k; transform = transform; rule = rule; x = (trap_place r.kind r.outs).0; y = (trap_place r.kind r.outs).1 }

  -- what the names of a body stand for, where its reads have these numbers
  abbrev pub bindings : ProgRule → List ℤ → Bindings
  bindings r numbers = record {
    sizes = sizes;
    x = pos c.x;
    y = pos c.y;
    reads = cut_up (map view_sides r.reads) numbers;
    outs = map view_sides r.outs;
  }

  -- the first trap among what is read; or else that of the body; or else the numbers of the outputs, output by output, each
  -- row by row
  unfoldable pub rule_gives : ℕ → ℕ → ProgRule → List Outcome → Result (List ℤ) Trap
  rule_gives transform rule r seen =
      unless_trapped (first_trap seen) (after_body (left_by (bindings r (map number_in seen)) (stmts r.body))
      (λ st. outputs_from 0 st (map view_sides r.outs)) (trap_of transform rule r))

  -- the number of a cell among those of the outputs
  abbrev pub in_outputs : List Read → List ℤ → ℤ
  in_outputs [] numbers = pos 0
  in_outputs (o ∷ rest) numbers =
      if output_holds matrices sizes c o
      then slice_index_or numbers ((c.y - natural (shown_area o).y.low) * (view_sides o).0 + (c.x - natural (shown_area o).x.low)) (pos 0)
      else in_outputs rest (drop ((view_sides o).0 * (view_sides o).1) numbers)

  -- a rule for single cells has the one number
  abbrev pub own_number : RuleKind → List Read → List ℤ → ℤ
  own_number kind.Cell outs numbers = slice_index_or numbers 0 (pos 0)
  own_number _ outs numbers = in_outputs outs numbers

  -- a cell's part of what its rule gives
  abbrev pub own_outcome : ProgRule → Result (List ℤ) Trap → Outcome
  own_outcome r (Ok numbers) = Value (own_number r.kind r.outs numbers)
  own_outcome r (Err t) = Trapped t
