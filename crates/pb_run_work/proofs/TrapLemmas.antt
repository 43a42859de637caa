-- Traps, cell by cell, and piece by piece.
use Rattle.std.proofs.Common.{◌≡◌, ◌∙◌, sym, ap, ℕ, ◌+◌, ◌<◌, ◌≤◌, ◌^◌, List, [], ◌∷◌, ◌++◌, length, drop, slice_get, Some, arith}
use Rattle.std.specs.List.{flat_map, range_with_len}
use Rattle.std.proofs.lemmas.List.{append-nil, append_assoc, drop_all, drop_more}
use Rattle.std.proofs.lemmas.List.FromFn.{get_or-range_with_len, length-map-range_with_len, length-range_with_len}
use Rattle.std.proofs.lemmas.Option.{get_or_from_slice_get, slice_get-get_or, slice_get_within}
use Rattle.pb_values.specs.Cells.{Turn}
use Rattle.pb_values.specs.declared.outcome.Outcome.{Outcome}
use Rattle.pb_values.specs.declared.outcome.Outcome.TheVariants.{Trapped}
use Rattle.pb_values.specs.declared.outcome.Trap.{Trap}
use Rattle.pb_taskgraph.specs.Turns.{after_all, after_write, with_outcome, with_outcomes}
use Rattle.pb_views.specs.Seats.{across, cell_at, down, seat_cells}
use Rattle.pb_views.specs.declared.seat.Seat.{Seat}
use Rattle.pb_base.proofs.ListLemmas.{at_in, in_at, in_flat}
use Rattle.pb_jobs.proofs.ListLemmas.{all_at, all_contained, at_map}
use Rattle.pb_run_work.specs.Traps.{AreNumbers, Begins, IsLeft, Wrote, seat_row, trapped}

-- ---- lists
next_left : {A : Type 0} (xs : List A) (k : ℕ) (x : A) → slice_get xs k ≡ Some x → drop k xs ≡ x ∷ drop (k + 1) xs
next_left xs k x at = drop_more xs k x (slice_get_within xs k x at) ∙ ap (λ y. y ∷ drop (k + 1) xs) (get_or_from_slice_get xs k x x at)

pub in_range_at : (n k : ℕ) → k < n → slice_get (range_with_len 0 n) k ≡ Some k
in_range_at n k below = slice_get-get_or (range_with_len 0 n) k k (omega (arith, below, length-range_with_len 0 n)) ∙ ap Some (get_or-range_with_len 0 n k k below ∙ omega arith)

-- ---- turns
all_more : (t : Turn) (c : ℕ) (o : Outcome) (rest : List (ℕ × Outcome)) → t.left ≡ (c, o) ∷ rest → after_all (after_write t c o) ≡ after_all t
unfolding after_all with_outcomes
all_more t c o rest e =
    let same = ap (λ l. with_outcomes (with_outcome t.outcomes c o) (drop 1 l)) e ∙ sym (ap (λ l. with_outcomes t.outcomes l) e) in
    λ i. record { task = t.task; outcomes = same i; left = [] }

all_done : (t : Turn) → t.left ≡ [] → after_all t ≡ t
unfolding after_all with_outcomes
all_done t e = λ i. record { task = t.task; outcomes = with_outcomes t.outcomes (e i); left = sym e i }

module _ (trap : Trap) where
  padded : (cells : List ℕ) (turn : Turn) → IsLeft trap cells turn → IsLeft trap (cells ++ []) turn
  padded cells turn h = h ∙ ap (trapped trap) (sym (append-nil cells))

  pub whole : (cells : List ℕ) (turn : Turn) → IsLeft trap cells turn → Begins trap cells turn
  whole cells turn h = ([], padded cells turn h)

  pub ended : (cells ahead : List ℕ) (start turn : Turn) → Wrote trap cells ahead start turn → ahead ≡ [] → Wrote trap cells [] start turn
  ended cells ahead start turn w none rest h = let a = w rest h in record { left = a.left ∙ ap (λ (l : List ℕ). trapped trap (l ++ rest)) none; same = a.same }

  pub all_written : (cells : List ℕ) (start turn : Turn) → Wrote trap cells [] start turn → IsLeft trap cells start → turn ≡ after_all start
  all_written cells start turn w h = let a = w [] (padded cells start h) in sym (all_done turn a.left) ∙ a.same

  -- ---- one cell more
  module _ (cells : List ℕ) (k n : ℕ) (start turn : Turn) (w : Wrote trap cells (drop k cells) start turn) (at : slice_get cells k ≡ Some n) (c : ℕ) (is : c ≡ n) where
    left_now : (rest : List ℕ) → IsLeft trap (cells ++ rest) start → turn.left ≡ (c, Trapped trap) ∷ trapped trap (drop (k + 1) cells ++ rest)
    left_now rest h = (w rest h).left ∙ ap (λ (l : List ℕ). trapped trap (l ++ rest)) (next_left cells k n at) ∙ ap (λ m. (m, Trapped trap) ∷ trapped trap (drop (k + 1) cells ++ rest)) (sym is)

    pub may_write : Begins trap cells start → slice_get turn.left 0 ≡ Some (c, Trapped trap)
    may_write b = ap (λ l. slice_get l 0) (left_now b.0 b.1)

    pub one_more : (new : Turn) → new ≡ after_write turn c (Trapped trap) → Wrote trap cells (drop (k + 1) cells) start new
    one_more new wrote rest h = record {
      left = ap (λ (t : Turn). t.left) wrote ∙ ap (drop 1) (left_now rest h);
      same = ap after_all wrote ∙ all_more turn c (Trapped trap) (trapped trap (drop (k + 1) cells ++ rest)) (left_now rest h) ∙ (w rest h).same;
    }

  -- ---- one piece more
  module _ {A : Type 0} (f : A → List ℕ) (xs : List A) (k : ℕ) (x : A) (at : slice_get xs k ≡ Some x) (start turn : Turn) (w : Wrote trap (flat_map f xs) (flat_map f (drop k xs)) start turn) where
    left_for : (rest : List ℕ) → IsLeft trap (flat_map f xs ++ rest) start → IsLeft trap (f x ++ (flat_map f (drop (k + 1) xs) ++ rest)) turn
    left_for rest h = (w rest h).left ∙ ap (λ l. trapped trap (flat_map f l ++ rest)) (next_left xs k x at) ∙ ap (trapped trap) (append_assoc (f x) (flat_map f (drop (k + 1) xs)) rest)

    pub piece_begins : Begins trap (flat_map f xs) start → Begins trap (f x) turn
    piece_begins b = (flat_map f (drop (k + 1) xs) ++ b.0, left_for b.0 b.1)

    pub piece_more : (new : Turn) → Wrote trap (f x) [] turn new → Wrote trap (flat_map f xs) (flat_map f (drop (k + 1) xs)) start new
    piece_more new p rest h = let q = p (flat_map f (drop (k + 1) xs) ++ rest) (left_for rest h) in record { left = q.left; same = q.same ∙ (w rest h).same }

pub piece_numbers : {A : Type 0} (f : A → List ℕ) (xs : List A) (k : ℕ) (x : A) → slice_get xs k ≡ Some x → AreNumbers (flat_map f xs) → AreNumbers (f x)
piece_numbers f xs k x at h =
    all_contained (λ c. c < 2 ^ 64) (f x) (λ c own. let i = at_in (flat_map f xs) c (in_flat f xs x c (in_at xs k x at) own) in all_at (λ c. c < 2 ^ 64) (flat_map f xs) i.0 c h i.1)

-- ---- seats
module _ (s : Seat) (y : ℕ) where
  pub row_at : (x : ℕ) → x < across s → slice_get (seat_row s y) x ≡ Some (cell_at s x y)
  row_at x below = at_map (λ x. cell_at s x y) (range_with_len 0 (across s)) x x (in_range_at (across s) x below)

  pub row_ended : (x : ℕ) → across s ≤ x → drop x (seat_row s y) ≡ []
  row_ended x past = drop_all x (seat_row s y) (omega (arith, past, length-map-range_with_len (λ x. cell_at s x y) 0 (across s)))

pub rows_ended : (s : Seat) (y : ℕ) → down s ≤ y → flat_map (seat_row s) (drop y (range_with_len 0 (down s))) ≡ []
rows_ended s y past = ap (flat_map (seat_row s)) (drop_all y (range_with_len 0 (down s)) (omega (arith, past, length-range_with_len 0 (down s))))

pub seats_ended : (seats : List Seat) (k : ℕ) → length seats ≤ k → flat_map seat_cells (drop k seats) ≡ []
seats_ended seats k past = ap (flat_map seat_cells) (drop_all k seats past)
