-- The cells of a call that can't be made: each is to have the same trap.
use Rattle.std.specs.Prelude.{◌≡◌, ◌<◌, ◌^◌, ℕ, List, ◌++◌, map}
use Rattle.std.specs.List.{All, range_with_len}
use Rattle.pb_values.specs.Cells.{Turn}
use Rattle.pb_values.specs.declared.outcome.Outcome.{Outcome}
use Rattle.pb_values.specs.declared.outcome.Outcome.TheVariants.{Trapped}
use Rattle.pb_values.specs.declared.outcome.Trap.{Trap}
use Rattle.pb_taskgraph.specs.Turns.{after_all}
use Rattle.pb_views.specs.Seats.{across, cell_at}
use Rattle.pb_views.specs.declared.seat.Seat.{Seat}

-- a row of what is seated so
abbrev pub seat_row : Seat → ℕ → List ℕ
seat_row s y = map (λ x. cell_at s x y) (range_with_len 0 (across s))

-- the numbers of cells have 64 bits
abbrev pub AreNumbers : List ℕ → Type 0
AreNumbers cells = All (λ c. c < 2 ^ 64) cells

module _ (trap : Trap) where
  -- these cells with the trap, and that this is all that is left to be written
  abbrev pub trapped : List ℕ → List (ℕ × Outcome)
  trapped cells = map (λ c. (c, Trapped trap)) cells

  abbrev pub IsLeft : List ℕ → Turn → Type 0
  IsLeft cells turn = turn.left ≡ trapped cells

  -- what is left to be written begins with the trap in these cells
  abbrev pub Begins : List ℕ → Turn → Type 0
  Begins cells turn = (rest : List ℕ) × IsLeft (cells ++ rest) turn

  -- of these cells, so many are ahead, and the others are written
  pub record IsAhead (rest ahead : List ℕ) (start turn : Turn) : Type 0 where
    pub left : IsLeft (ahead ++ rest) turn
    pub same : after_all turn ≡ after_all start

  abbrev pub Wrote : List ℕ → List ℕ → Turn → Turn → Type 0
  Wrote cells ahead start turn = (rest : List ℕ) → IsLeft (cells ++ rest) start → IsAhead rest ahead start turn
