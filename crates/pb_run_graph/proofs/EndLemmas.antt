-- How many matrices and cells an unrolled run meets.
use Rattle.std.proofs.Common.{◌≡◌, ◌∙◌, refl, ap, ℕ, suc, ◌+◌, ◌<◌, List, [], ◌∷◌, ◌++◌, length, map, slice_get, arith}
use Rattle.std.specs.List.{All, AllZip, Contains}
use Rattle.pb_program.specs.Configs.{ConfigValue}
use Rattle.pb_program.specs.Trees.{ProgTransform}
use Rattle.pb_model.specs.Calls.{Outcomes}
use Rattle.pb_check.specs.Orders.{AnalysisValue}
use Rattle.pb_recursion.specs.Depths.{IsWhole, sides_of_matrix}
use Rattle.pb_recursion.specs.Shapes.{Sides}
use Rattle.pb_views.specs.declared.seat.Seat.{Seat}
use Rattle.pb_steps.specs.Handed.{IsEntered}
use Rattle.pb_steps.specs.Handed.{matrices_at, run_matrices}
use Rattle.pb_steps.specs.Handed.{IsPlaced, before, total}
use Rattle.pb_steps.specs.Handed.{Met, after_matrices, nothing_met, seats_from, unrolled_run}
use Rattle.pb_steps.proofs.Handed.{HaveSides, Reaches, Stands, before_first, before_right, reaches_both}
use Rattle.pb_steps.proofs.Handed.{in_row}
use Rattle.pb_steps.proofs.Handed.{seats_placed, seats_reach, seats_within}
use Rattle.pb_steps.proofs.Handed.{depth_deep}
use Rattle.pb_steps.proofs.Handed.{HasCell}
use Rattle.pb_steps.proofs.ListLemmas.{get_left}

have_sides : (gs : List Outcomes) → All IsWhole gs → HaveSides (map sides_of_matrix gs) gs
have_sides [] whole = tt
have_sides (g ∷ gs) whole = ((refl, refl, whole 0 g (omega arith)), have_sides gs (λ k d below. whole (suc k) d (omega (arith, below))))

get_right : (xs ys : List Outcomes) (k : ℕ) → slice_get (xs ++ ys) (length xs + k) ≡ slice_get ys k
get_right [] ys k = ap (slice_get ys) (omega arith)
get_right (x ∷ xs) ys k = let here : suc (length xs) + k ≡ suc (length xs + k) = omega arith in ap (slice_get (x ∷ (xs ++ ys))) here ∙ get_right xs ys k

module _ (p : List ProgTransform) (found : List AnalysisValue) (config : ConfigValue) (grain depth number : ℕ) (ins : List Outcomes) (h : IsEntered p found config number ins) where
  abbrev ms : List Outcomes
  ms = run_matrices p found config grain depth number ins

  abbrev made : List Outcomes
  made = matrices_at p found config grain depth number ins

  abbrev inputs : List Sides
  inputs = map sides_of_matrix ins

  abbrev n : Met
  n = after_matrices nothing_met inputs

  abbrev next : Met
  next = (unrolled_run p found config grain depth number inputs).next

  have : HaveSides inputs ins
  have = have_sides ins h.whole

  reach : Reaches ms nothing_met ins n
  reach = seats_reach ms nothing_met inputs ins have

  stands : Stands ms n made
  stands = record {
    at = λ k g e. (let here : n.matrices + k ≡ length ins + k = (let m = reach.matrices in omega (arith, m)) in ap (slice_get ms) here ∙ get_right ins made k ∙ e);
    cells = (let m : n.matrices ≡ length ins + 0 = (let r = reach.matrices in omega (arith, r)) in ap (before ms) m ∙ before_right ins made 0 ∙ (let c = reach.cells in let none = before_first made in omega (arith, c, none)));
  }

  placed : AllZip (IsPlaced ms) (seats_from nothing_met inputs) ins
  placed = seats_placed ms nothing_met inputs ins have (record { at = λ k g e. (let here : 0 + k ≡ k = omega arith in ap (slice_get ms) here ∙ get_left ins made k g e); cells = before_first ms })

  known : (s : Seat) → Contains (seats_from nothing_met inputs) s → (c : ℕ) → HasCell s c → c < total ins
  known s there c has = let row = in_row c 0 (total ins) (seats_within ms nothing_met inputs ins have s there c has) in omega (arith, row.1)

  ends : Reaches ms nothing_met ms next
  ends = reaches_both ms nothing_met n next ins made reach (depth_deep config ms p found grain h.well h.sound h.valid h.are_found depth number h.transform h.there (λ c. c < total ins) n (seats_from nothing_met inputs) ins placed h.enters known stands).0.reaches

  pub met_matrices : next.matrices ≡ length ms
  met_matrices = let e = ends.matrices in omega (arith, e)

  pub met_cells : next.cells ≡ total ms
  met_cells = let e = ends.cells in omega (arith, e)
