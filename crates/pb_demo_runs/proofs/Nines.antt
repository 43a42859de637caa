-- Matrices whose cells are numbers, and of them those whose numbers are from -9 to 9.
use Rattle.std.proofs.Common.{◌≡◌, refl, ℕ, zero, suc, ◌+◌, ◌*◌, ◌≤◌, nat_lt, Bool, true, false, ◌&&◌, List, [], ◌∷◌, map, slice_get, None, unsigned_abs}
use Rattle.std.specs.Prelude.{if◌then◌else◌, slice_index_or, unwrap_or}
use Rattle.std.specs.List.{AllByRecursion}
use Rattle.pb_values.specs.declared.outcome.Outcome.{Outcome}
use Rattle.pb_values.specs.declared.outcome.Outcome.TheVariants.{Value, Trapped}
use Rattle.pb_model.specs.Calls.{Outcomes, first_trapped, in_matrices, no_outcome, or_trapped, outcome_in}
use Rattle.pb_model.specs.Cells.{Cell}
use Rattle.pb_model.specs.Equations.{first_trap, number_in}
use Rattle.pb_model.specs.Grids.{at_place, no_grid}

abbrev pub IsNumber : Outcome → Type 0
IsNumber (Value z) = Unit {0}
IsNumber (Trapped t) = ⊥

abbrev pub IsNine : Outcome → Type 0
IsNine (Value z) = unsigned_abs z ≤ 9
IsNine (Trapped t) = ⊥

-- each cell is so
abbrev pub Holds : (Outcome → Type 0) → Outcomes → Type 0
Holds P m = AllByRecursion P m.cells

abbrev pub AllHold : (Outcome → Type 0) → List Outcomes → Type 0
AllHold P ms = AllByRecursion (Holds P) ms

-- ---- what stands in such matrices
module _ (P : Outcome → Type 0) (none : P no_outcome) where
  or_none : (xs : List Outcome) (k : ℕ) → AllByRecursion P xs → P (unwrap_or (slice_get xs k) no_outcome)
  or_none [] k h = none
  or_none (x ∷ xs) zero h = h.0
  or_none (x ∷ xs) (suc k) h = or_none xs k h.1

  pub at_any : (g : Outcomes) (x y : ℕ) → Holds P g → P (unwrap_or (at_place g x y) no_outcome)
  at_any g x y h = by (nat_lt x g.width && nat_lt y g.height)
    where
      by : (b : Bool) → P (unwrap_or (if b then slice_get g.cells (y * g.width + x) else None) no_outcome)
      by true = or_none g.cells (y * g.width + x) h
      by false = none

  any_matrix : (ms : List Outcomes) (k : ℕ) → AllHold P ms → Holds P (slice_index_or ms k no_grid)
  any_matrix [] k h = tt
  any_matrix (m ∷ ms) zero h = h.0
  any_matrix (m ∷ ms) (suc k) h = any_matrix ms k h.1

  pub outcome_any : (ms : List Outcomes) (c : Cell) → AllHold P ms → P (outcome_in ms c)
  unfolding in_matrices
  outcome_any ms c h = at_any (slice_index_or ms c.matrix no_grid) c.x c.y (any_matrix ms c.matrix h)

-- no cell of them is trapped
pub none_trapped_of : (ms : List Outcomes) → AllHold IsNumber ms → (cells : List Cell) → first_trapped ms cells ≡ None
none_trapped_of ms numbers [] = refl
none_trapped_of ms numbers (c ∷ cells) = by (outcome_in ms c) (outcome_any IsNumber tt ms c numbers) (none_trapped_of ms numbers cells)
  where
    by : (o : Outcome) → IsNumber o → first_trapped ms cells ≡ None → or_trapped c o (first_trapped ms cells) ≡ None
    by (Value z) is later = later
    by (Trapped t) is later = absurd is

pub nine_number : (o : Outcome) → IsNine o → IsNumber o
nine_number (Value z) h = tt
nine_number (Trapped t) h = h

pub no_trap_among : (seen : List Outcome) → AllByRecursion IsNine seen → first_trap seen ≡ None
unfolding first_trap
no_trap_among [] h = refl
no_trap_among (Value z ∷ seen) h = no_trap_among seen h.1
no_trap_among (Trapped t ∷ seen) h = absurd h.0

pub numbers_nine : (seen : List Outcome) → AllByRecursion IsNine seen → AllByRecursion (λ z. unsigned_abs z ≤ 9) (map number_in seen)
numbers_nine [] h = tt
numbers_nine (Value z ∷ seen) h = (h.0, numbers_nine seen h.1)
numbers_nine (Trapped t ∷ seen) h = absurd h.0
