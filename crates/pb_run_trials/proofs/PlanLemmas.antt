-- The outcomes of a row of sums, and what its tasks may read.
use Rattle.std.proofs.Common.{◌≡◌, ◌∙◌, refl, sym, ap, subst, inl, inr, ⊎_elim, ℕ, zero, suc, ◌<◌, ◌≤◌, ◌+◌, ◌-◌, ◌*◌, Bool, true, false, ℤ, pos, negsuc, ◌+ℤ◌, [], ◌∷◌, length, get_or, take, slice_get, Some, Ok, Err, of_z, to_z, arith}
use Rattle.std.specs.Prelude.{FitsSigned}
use Rattle.std.specs.Int.{w64}
use Rattle.std.specs.List.{AllByRecursion, Contains}
use Rattle.std.proofs.Math.Bool.{cond}
use Rattle.std.proofs.lemmas.Bool.{cases_lt}
use Rattle.std.proofs.lemmas.Bool.Decides.{nat_tests}
use Rattle.std.proofs.lemmas.Int.{to_z-of_z}
use Rattle.std.proofs.lemmas.List.Elements.{All-from_recursion}
use Rattle.pb_base.proofs.ListLemmas.{in_head}
use Rattle.pb_values.specs.Checked.{fits_i64}
use Rattle.pb_values.specs.declared.outcome.Kind.TheVariants.{Overflow}
use Rattle.pb_values.specs.declared.outcome.Outcome.{Outcome}
use Rattle.pb_values.specs.declared.outcome.Outcome.TheVariants.{Value, Trapped}
use Rattle.pb_taskgraph.specs.Graphs.{cells_of}
use Rattle.pb_taskgraph.specs.Plans.{IsPlan, IsSmall, outcome_at}
use Rattle.pb_taskgraph.specs.Turns.{Begins, MayRead, after_some, after_write}
use Rattle.pb_taskgraph.proofs.TurnLemmas.{may-write, read-is, written}
use Rattle.pb_values.specs.Cells.{Turn}
use Rattle.pb_run_trials.specs.Sums.{AreSums, SumsValue, outcome_from, plan_of, sum_of, sums}
use Rattle.pb_run_trials.proofs.SumsLemmas.{links-in, row-cells, row-graph, row-in}

-- the outcomes
length-sums : (n : ℕ) (a b : Outcome) → length (sums a b n) ≡ n
length-sums zero a b = refl
length-sums (suc n) a b = ap suc (length-sums n b (sum_of a b))

from-small : (z : ℤ) (b : Bool) → (b ≡ true → FitsSigned w64 z) → IsSmall (outcome_from (cond b (Ok z) (Err Overflow)))
from-small z true fits = fits refl
from-small z false fits = (omega arith, omega arith, omega arith, omega arith)

fits-small : (z : ℤ) → fits_i64 z ≡ true → FitsSigned w64 z
fits-small (pos n) e = grind (arith, nat_tests)
fits-small (negsuc n) e = grind (arith, nat_tests)

sum-small : (a b : Outcome) → IsSmall a → IsSmall b → IsSmall (sum_of a b)
sum-small (Value x) (Value y) s t = from-small (x +ℤ y) (fits_i64 (x +ℤ y)) (fits-small (x +ℤ y))
sum-small (Value x) (Trapped e) s t = t
sum-small (Trapped e) b s t = s

sums-small : (n : ℕ) (a b : Outcome) → IsSmall a → IsSmall b → AllByRecursion IsSmall (sums a b n)
sums-small zero a b s t = tt
sums-small (suc n) a b s t = (s, sums-small n b (sum_of a b) t (sum-small a b s t))

sums-at : (i n : ℕ) (a b : Outcome) → suc (suc i) < n → outcome_at (sums a b n) (suc (suc i)) ≡ sum_of (outcome_at (sums a b n) i) (outcome_at (sums a b n) (suc i))
unfolding outcome_at
sums-at i zero a b below = absurd (omega arith)
sums-at i (suc zero) a b below = absurd (omega arith)
sums-at i (suc (suc zero)) a b below = absurd (omega arith)
sums-at zero (suc (suc (suc n))) a b below = refl
sums-at (suc i) (suc (suc (suc n))) a b below = sums-at i (suc (suc n)) b (sum_of a b) (omega arith)

sums-first : (n : ℕ) (a b : Outcome) → 0 < n → outcome_at (sums a b n) 0 ≡ a
unfolding outcome_at
sums-first zero a b below = absurd (omega arith)
sums-first (suc n) a b below = refl

sums-second : (n : ℕ) (a b : Outcome) → 1 < n → outcome_at (sums a b n) 1 ≡ b
unfolding outcome_at
sums-second zero a b below = absurd (omega arith)
sums-second (suc zero) a b below = absurd (omega arith)
sums-second (suc (suc n)) a b below = refl

pub sums-plan : (w : SumsValue) → AreSums w → IsPlan (plan_of w)
unfolding plan_of
sums-plan w s = record {
  graph = row-graph (length w.graph.tasks) w.graph s.row;
  size = length-sums w.graph.cells (Value w.first) (Value w.second);
  small = All-from_recursion IsSmall (sums (Value w.first) (Value w.second) w.graph.cells) (sums-small w.graph.cells (Value w.first) (Value w.second) s.first s.second);
  listed = λ t c below. (λ h. h, λ h. h);
  once = λ t below. (row-graph (length w.graph.tasks) w.graph s.row).partition.once t;
}

-- the given numbers, as they are read from the fields
module _ (i w : SumsValue) (same : i ≡ w) (s : AreSums i) (c : ℕ) (below : c < (plan_of w).graph.inputs) where
  few : c < 2
  unfolding plan_of
  few = omega (arith, s.row.inputs, ap (λ (v : SumsValue). v.graph.inputs) same)

  pub first-given : c ≡ 0 → Value (to_z w64 (of_z w64 i.first)) ≡ outcome_at (plan_of w).solution c
  unfolding plan_of
  first-given zero_is =
      ap (λ z. Value z) (to_z-of_z w64 i.first s.first) ∙ sym (sums-first i.graph.cells (Value i.first) (Value i.second) (omega (arith, s.row.cells)))
      ∙ ap (λ (v : SumsValue). outcome_at (plan_of v).solution 0) same ∙ ap (outcome_at (plan_of w).solution) (sym zero_is)

  pub second-given : (c ≡ 0 → ⊥) → Value (to_z w64 (of_z w64 i.second)) ≡ outcome_at (plan_of w).solution c
  unfolding plan_of
  second-given other =
      let one : 1 ≡ c = omega (arith, few) in
      ap (λ z. Value z) (to_z-of_z w64 i.second s.second) ∙ sym (sums-second i.graph.cells (Value i.first) (Value i.second) (omega (arith, s.row.cells)))
      ∙ ap (λ (v : SumsValue). outcome_at (plan_of v).solution 1) same ∙ ap (outcome_at (plan_of w).solution) one

-- a task that has written so many of its two cells
module _ (w : SumsValue) (s : AreSums w) (t : ℕ) (task : t < length (plan_of w).graph.tasks) where
  own : (plan_of w).order t ≡ (2 * t + 2) ∷ (2 * t + 3) ∷ []
  unfolding plan_of
  own = row-cells (length w.graph.tasks) w.graph s.row t task

  pub own-length : length ((plan_of w).order t) ≡ 2
  own-length = ap length own

  pub own-at : (k : ℕ) → k < 2 → get_or ((plan_of w).order t) k 0 ≡ 2 * t + 2 + k
  own-at zero below = ap (λ cs. get_or cs 0 0) own ∙ omega arith
  own-at (suc zero) below = ap (λ cs. get_or cs 1 0) own ∙ omega arith
  own-at (suc (suc k)) below = absurd (omega arith)

  pub reads : (k c : ℕ) → k < 2 → 2 * t + k ≤ c → c < 2 * t + 2 + k → MayRead (plan_of w) t k c
  unfolding plan_of
  reads k c few least most = ⊎_elim
      (λ (input : c < 2). inl (omega (arith, s.row.inputs)))
      (λ (made : 2 ≤ c). inr (⊎_elim
      (λ (earlier : c < 2 * t + 2). inl (t - 1, links-in (length w.graph.tasks) w.graph s.row t (t - 1) task (omega arith), row-in (length w.graph.tasks) w.graph s.row (t - 1) c (omega arith) (omega arith) (omega arith)))
      (λ (now : 2 * t + 2 ≤ c). inr (first k c (omega arith) (omega arith)))
      (cases_lt c (2 * t + 2))))
      (cases_lt c 2)
    where
      first : (k c : ℕ) → k ≡ 1 → 2 * t + 2 ≡ c → Contains (take k (cells_of w.graph t)) c
      first k c one at = subst (λ j. Contains (take j (cells_of w.graph t)) c) (sym one) (subst (λ cs. Contains (take 1 cs) c) (sym own) (subst (Contains ((2 * t + 2) ∷ [])) at (in_head (2 * t + 2) [])))

  pub next-sum : (x y : Outcome) (k c : ℕ) → k < 2 → c ≡ 2 * t + 2 + k → x ≡ outcome_at (plan_of w).solution (c - 2) → y ≡ outcome_at (plan_of w).solution (c - 1) → sum_of x y ≡ outcome_at (plan_of w).solution c
  unfolding plan_of
  next-sum x y k c few at first second =
      let solution = sums (Value w.first) (Value w.second) w.graph.cells in
      let one : suc (c - 2) ≡ c - 1 = omega arith in
      let two : suc (suc (c - 2)) ≡ c = omega arith in
      ap (λ a. sum_of a y) first ∙ ap (sum_of (outcome_at solution (c - 2))) (second ∙ ap (outcome_at solution) (sym one))
      ∙ sym (sums-at (c - 2) w.graph.cells (Value w.first) (Value w.second) (omega (arith, s.row.cells))) ∙ ap (outcome_at solution) two

  -- a cell: two reads and a write
  module _ (start : Turn) (b : Begins (plan_of w) t start) (k c : ℕ) (few_k : k < 2) (at : c ≡ 2 * t + 2 + k) (turn turn' turn'' : Turn) (now : turn ≡ after_some k start) (stays : turn' ≡ turn) (stays' : turn'' ≡ turn')
      (x y v : Outcome) (first : turn.outcomes (c - 2) ≡ Some x) (second : turn'.outcomes (c - 1) ≡ Some y) (is : v ≡ sum_of x y) where
    pub step-write : slice_get turn''.left 0 ≡ Some (c, v)
    step-write =
        let x_is = read-is (plan_of w) t start b k turn now (c - 2) x (reads k (c - 2) few_k (omega arith) (omega arith)) first in
        let y_is = read-is (plan_of w) t start b k turn' (stays ∙ now) (c - 1) y (reads k (c - 1) few_k (omega arith) (omega arith)) second in
        may-write (plan_of w) t start b k turn'' (stays' ∙ stays ∙ now) c v (omega (arith, own-length)) (own-at k few_k ∙ sym at) (is ∙ next-sum x y k c few_k at x_is y_is)

    pub step-more : (new : Turn) → new ≡ after_write turn'' c v → new ≡ after_some (k + 1) start
    step-more new wrote = wrote ∙ written (plan_of w) t start b k turn'' (stays' ∙ stays ∙ now) c v step-write
