-- The coefficients of the rule variables in the ends of what an accepted rule reads.
use Rattle.std.proofs.Common.{◌≡◌, refl, inl, inr, ℕ, ◌+◌, ◌≤◌, Bool, true, false, List, [], ◌∷◌, ◌++◌, length, map, Option, Some, None, slice_get, ℤ, ◌&&◌, ◌||◌, unsigned_abs, arith}
use Rattle.std.specs.Prelude.{◌==◌, filter, not, if◌then◌else◌}
use Rattle.std.specs.List.{AllByRecursion, flat_map}
use Rattle.std.proofs.Math.Bool.{cond}
use Rattle.std.proofs.lemmas.Bool.{and_parts, or_cases}
use Rattle.std.proofs.lemmas.Int.{ints}
use Rattle.pb_linear.specs.Numbers.{Numbers}
use Rattle.pb_program.specs.declared.view.Read.{Read}
use Rattle.pb_program.specs.declared.view.ReadView.{ReadView}
use Rattle.pb_program.specs.declared.view.ReadView.TheVariants as view
use Rattle.pb_program.specs.Conditions.{Condition, at_most, by_view, cell_conditions, conditions, in_matrix, region_conditions, view_conditions, written}
use Rattle.pb_program.specs.Forms.{CoordinateValue, DeclValue, nothing, over_sizes}
use Rattle.pb_program.specs.Trees.{ProgRule, ProgTransform}
use Rattle.pb_program.specs.WellFormed.{IsDecl, IsRule, IsView, variables}
use Rattle.pb_region.specs.Boxes.{is_box, is_unit, is_wide, is_zero}
use Rattle.pb_region.specs.Ends.{Ends, Interval, between, ends_by, ends_in, ends_of, from_start, one_place}
use Rattle.pb_region.specs.Gaps.{gap}
use Rattle.pb_region.specs.Reads.{ReadValue, is_made, read_of, reads_of}
use Rattle.pb_region.specs.Rules.{IsAccepted}
use Rattle.pb_region.specs.Small.{HaveSmallEnds}
use Rattle.pb_region.proofs.InsideLemmas.{all_boxes, unit_bounds, zero_is}
use Rattle.pb_region.proofs.LimitLemmas.{SmallEnds, ends_small_by}

abbrev IsSteep : CoordinateValue → Type 0
IsSteep c = unsigned_abs c.x + unsigned_abs c.y ≤ 1

abbrev AreBoxes : List Condition → Type 0
AreBoxes = AllByRecursion (λ c. is_box (gap c) ≡ true)

-- ---- a condition that is a box
unit_near : (k : ℤ) → is_unit k ≡ true → unsigned_abs k ≤ 1
unit_near k h = let b = unit_bounds k h in omega (arith, ints, b.0, b.1)

steep_gap : (g : CoordinateValue) → is_box g ≡ true → IsSteep g
steep_gap g h =
    let shape = (and_parts (not g.quotient) ((is_unit g.x && is_zero g.y) || (is_zero g.x && is_unit g.y)) h).1 in
    elim (or_cases (is_unit g.x && is_zero g.y) (is_zero g.x && is_unit g.y) shape) [
      | inl on_x ↦ let parts = and_parts (is_unit g.x) (is_zero g.y) on_x in omega (arith, ints, unit_near g.x parts.0, zero_is g.y parts.1)
      | inr on_y ↦ let parts = and_parts (is_zero g.x) (is_unit g.y) on_y in omega (arith, ints, zero_is g.x parts.0, unit_near g.y parts.1)
    ]

-- an end that is compared with 0, and one that is compared with a side
steep_from : (e : CoordinateValue) → is_box (gap (at_most nothing 0 e)) ≡ true → IsSteep e
unfolding gap
steep_from e h = let near = steep_gap (gap (at_most nothing 0 e)) h in omega (arith, ints, near)

steep_to : (e : CoordinateValue) (side : Numbers) → is_box (gap (at_most e 0 (over_sizes side))) ≡ true → IsSteep e
unfolding gap
steep_to e side h = let near = steep_gap (gap (at_most e 0 (over_sizes side))) h in omega (arith, ints, near)

-- ---- the ends of views
record AreSteep (i : Interval) : Type 0 where
  low : IsSteep i.low
  high : IsSteep i.high
  low_unmarked : i.low.quotient ≡ false
  high_unmarked : i.high.quotient ≡ false

steep_place : (e : CoordinateValue) → IsSteep e → AreSteep (one_place e)
steep_place e h = record { low = h; high = h; low_unmarked = refl; high_unmarked = refl }

steep_nothing : IsSteep nothing
steep_nothing = omega (arith, ints)

steep_start : (side : Numbers) → AreSteep (from_start side)
steep_start side = record { low = steep_nothing; high = steep_nothing; low_unmarked = refl; high_unmarked = refl }

steep_cell : (e : CoordinateValue) (side : Numbers) → AreBoxes (cell_conditions e side) → AreSteep (one_place e)
steep_cell e side h = steep_place e (steep_from e h.0)

steep_region : (a b : CoordinateValue) (side : Numbers) → AreBoxes (region_conditions a b side) → AreSteep (between a b)
steep_region a b side h = record { low = steep_from a h.0; high = steep_to b side h.1.1.0; low_unmarked = refl; high_unmarked = refl }

steep_flat : (flat : Bool) (i : Interval) (cs : List Condition) → (AreBoxes cs → AreSteep i) → AreBoxes (if flat then [] else cs) → AreSteep (if flat then one_place nothing else i)
steep_flat true i cs f h = steep_place nothing steep_nothing
steep_flat false i cs f h = f h

record HaveSteepEnds (e : Ends) : Type 0 where
  x : AreSteep e.x
  y : AreSteep e.y

steep_ends : (v : ReadView) (r : Read) (d : DeclValue) → AreBoxes (by_view v r d) → HaveSteepEnds (ends_by v r d)
steep_ends view.Cell r d h = record { x = steep_place r.x0 (steep_from r.x0 h.0); y = steep_flat (r.dims == 1) (one_place r.y0) (cell_conditions r.y0 d.h) (steep_cell r.y0 d.h) h.1.1 }
steep_ends view.Row r d h = record { x = steep_start d.w; y = steep_cell r.y0 d.h h }
steep_ends view.Column r d h = record { x = steep_cell r.x0 d.w h; y = steep_start d.h }
steep_ends view.Region r d h = record {
  x = record { low = steep_from r.x0 h.0; high = steep_to r.x1 d.w h.1.1.0; low_unmarked = refl; high_unmarked = refl };
  y = steep_flat (r.dims == 1) (between r.y0 r.y1) (region_conditions r.y0 r.y1 d.h) (steep_region r.y0 r.y1 d.h) h.1.1.1;
}
steep_ends view.Whole r d h = record { x = steep_start d.w; y = steep_start d.h }

-- ---- lists
all_left : {A : Type 0} (P : A → Type 0) (xs ys : List A) → AllByRecursion P (xs ++ ys) → AllByRecursion P xs
all_left P [] ys h = tt
all_left P (x ∷ xs) ys h = (h.0, all_left P xs ys h.1)

all_right : {A : Type 0} (P : A → Type 0) (xs ys : List A) → AllByRecursion P (xs ++ ys) → AllByRecursion P ys
all_right P [] ys h = h
all_right P (x ∷ xs) ys h = all_right P xs ys h.1

-- ---- the reads of a rule
module _ (sizes : ℕ) (ms : List DeclValue) (fit : AllByRecursion (IsDecl sizes) ms) (inputs transforms : ℕ) (r : ProgRule) (h : IsRule sizes inputs (length ms) transforms r) where
  both_ends : (e : Ends) → HaveSteepEnds e → SmallEnds e → HaveSmallEnds e
  both_ends e s k = record {
    x_low = record { unmarked = s.x.low_unmarked; coefficients = s.x.low; rest = k.x0 };
    x_high = record { unmarked = s.x.high_unmarked; coefficients = s.x.high; rest = k.x1 };
    y_low = record { unmarked = s.y.low_unmarked; coefficients = s.y.low; rest = k.y0 };
    y_high = record { unmarked = s.y.high_unmarked; coefficients = s.y.high; rest = k.y1 };
  }

  steep_by : (o : Option DeclValue) (read : Read) → AreBoxes (in_matrix read o) → HaveSteepEnds (ends_in read o)
  steep_by None read b = let none : AreSteep (between nothing nothing) = record { low = steep_nothing; high = steep_nothing; low_unmarked = refl; high_unmarked = refl } in record { x = none; y = none }
  steep_by (Some d) read b = steep_ends read.view read d b

  read_small : (read : Read) → IsView sizes (variables r.outs) (length ms) read → AreBoxes (view_conditions ms read) → HaveSmallEnds (ends_of ms read)
  unfolding ends_of
  read_small read v b = both_ends (ends_of ms read) (steep_by (slice_get ms read.matrix) read b) (ends_small_by sizes ms fit inputs (length ms) transforms r h (slice_get ms read.matrix) read refl v)

  abbrev AreRead : List ReadValue → Type 0
  AreRead = AllByRecursion (λ (v : ReadValue). HaveSmallEnds v.ends)

  module _ (number : ℕ) (wide : Bool) where
    kept : (b : Bool) (read : Read) (rest : List Read) → HaveSmallEnds (ends_of ms read) → AreRead (map (read_of ms number wide) rest) → AreRead (map (read_of ms number wide) (cond b (read ∷ rest) rest))
    kept true read rest k ks = (k, ks)
    kept false read rest k ks = ks

    reads_small : (rs : List Read) → AllByRecursion (IsView sizes (variables r.outs) (length ms)) rs → AreBoxes (flat_map (view_conditions ms) rs) → AreRead (map (read_of ms number wide) (filter (is_made inputs) rs))
    reads_small [] v b = tt
    reads_small (read ∷ rs) v b =
        let here = all_left (λ c. is_box (gap c) ≡ true) (view_conditions ms read) (flat_map (view_conditions ms) rs) b in
        let later = all_right (λ c. is_box (gap c) ≡ true) (view_conditions ms read) (flat_map (view_conditions ms) rs) b in
        kept (is_made inputs read) read (filter (is_made inputs) rs) (read_small read v.0 here) (reads_small rs v.1 later)

-- of an accepted rule of a transform
pub small_reads : (transforms : ℕ) (t : ProgTransform) (r : ProgRule) → AllByRecursion (IsDecl (length t.sizes)) t.matrices → IsRule (length t.sizes) t.inputs (length t.matrices) transforms r → IsAccepted t r
    → (number : ℕ) → AllByRecursion (λ (v : ReadValue). HaveSmallEnds v.ends) (reads_of t number r)
unfolding reads_of
small_reads transforms t r fit h accepted number =
    let ms = t.matrices in
    let outs = flat_map (view_conditions ms) r.outs in
    let reads = flat_map (view_conditions ms) r.reads in
    let all = all_boxes (conditions ms r) accepted.conditions in
    let Box : Condition → Type 0 = λ c. is_box (gap c) ≡ true in
    reads_small (length t.sizes) ms fit t.inputs transforms r h number (is_wide r.kind) r.reads h.reads (all_right Box outs reads (all_left Box (outs ++ reads) (flat_map written r.conds) all))
