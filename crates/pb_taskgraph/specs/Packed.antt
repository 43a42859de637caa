-- Outcomes that are held as words: a number, or a trap as the number that its parts make, digit by digit.
use Rattle.std.specs.Prelude.{◌≡◌, ℕ, ◌==◌, ◌≤◌, if◌then◌else◌, ◌^◌, ◌/◌, ◌%◌, ℤ, unsigned_abs, Bool, true, false, IsTrue, is_some, List, [], ◌∷◌, length, slice_get}
use Rattle.pb_values.specs.Cells.{is_number}
use Rattle.pb_values.specs.declared.outcome.Kind.{Kind}
use Rattle.pb_values.specs.declared.outcome.Kind.TheVariants as kind
use Rattle.pb_values.specs.declared.outcome.Outcome.{Outcome}
use Rattle.pb_values.specs.declared.outcome.Outcome.TheVariants.{Value, Trapped}
use Rattle.pb_values.specs.declared.outcome.Trap.{Trap}

-- the kind with this number
abbrev pub kind_at : ℕ → Kind
kind_at n =
    if n == 0 then kind.Overflow else if n == 1 then kind.DivideByZero else if n == 2 then kind.OutOfView
    else if n == 3 then kind.LoopLimit else if n == 4 then kind.BadShape else kind.DepthEnded

-- the trap with this place, which these made: the kind, the transform and the rule
unfoldable pub trap_by : ℕ → ℕ → ℕ → Trap
trap_by by x y = record { kind = kind_at (by / 32 / 64); transform = by / 32 % 64; rule = by % 32; x = x; y = y }

-- the trap that a word stands for
unfoldable pub trap_in : ℕ → Trap
trap_in w = trap_by (w / 2 ^ 23 / 2 ^ 23) (w / 2 ^ 23 % 2 ^ 23) (w % 2 ^ 23)

-- the outcome that a word stands for, if it is a trap or if it isn't
unfoldable pub outcome_in : ℤ → Bool → Outcome
outcome_in w false = Value w
outcome_in w true = Trapped (trap_in (unsigned_abs w))

-- the outcomes that words stand for: one is a trap where its flag is there and says so
unfoldable pub outcomes_in : List ℤ → List Bool → List Outcome
outcomes_in [] _ = []
outcomes_in (w ∷ ws) [] = Value w ∷ outcomes_in ws []
outcomes_in (w ∷ ws) (b ∷ bs) = outcome_in w b ∷ outcomes_in ws bs

-- the flags of so many words: none until a trap is put, then one for each word; and there is room for them from the start
pub record AreFlags (any : Bool) (flags : List Bool) (capacity count : ℕ) : Type 0 where
  pub none : any ≡ false → flags ≡ []
  pub each : any ≡ true → length flags ≡ count
  pub room : count ≤ capacity

-- each outcome that is there is a number
abbrev pub HasNumbers : List Outcome → Type 0
HasNumbers outcomes = (cell : ℕ) → IsTrue (is_some (slice_get outcomes cell)) → IsTrue (is_number (slice_get outcomes cell))
