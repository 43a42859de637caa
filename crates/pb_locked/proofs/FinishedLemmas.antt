-- A board of which all tasks are finished.
use Rattle.std.proofs.Common.{◌≡◌, ◌∙◌, refl, sym, ap, subst, ⊎_elim, ℕ, ◌<◌, ◌≤◌, ◌+◌, List, length, get_or, slice_set, Option, Some, None, IsSome, slice_get, pos, arith, zero-add}
use Rattle.std.proofs.lemmas.Bool.{cases_eq, cases_lt}
use Rattle.std.proofs.lemmas.List.{ext_get_or, get_or-set_other, get_or-set_same}
use Rattle.std.proofs.lemmas.List.FromFn.{get_or-map-range_with_len, length-map-range_with_len}
use Rattle.std.proofs.lemmas.Option.{get_or_from_slice_get}
use Rattle.pb_values.specs.declared.outcome.Outcome.{Outcome}
use Rattle.pb_values.specs.declared.outcome.Outcome.TheVariants.{Value}
use Rattle.pb_taskgraph.specs.Orders.{IsLawful}
use Rattle.pb_taskgraph.specs.Plans.{IsPlan, IsSmall, Plan, outcome_at}
use Rattle.pb_taskgraph.proofs.PlanLemmas.{outcome-small}
use Rattle.pb_core.specs.States.{State}
use Rattle.pb_core.specs.Events.{AllFinished, by_number, task_numbered}
use Rattle.pb_core.specs.Sound.{IsSound}
use Rattle.pb_core.proofs.FinishLemmas.{finished-all}
use Rattle.pb_core.proofs.OrderLemmas.{is-task, lawful-order, numbered-is}
use Rattle.pb_core.proofs.StateLemmas.{reached-sound}
use Rattle.pb_core.proofs.WithLemmas.{some-of}
use Rattle.pb_locked.specs.Boards.{HasBegun, IsBoard, IsReady}
use Rattle.pb_locked.proofs.BoardLemmas.{board-goes}

module _ (p : Plan) (is : IsPlan p) (s : State) (b : IsBoard p s) where
  sound : IsSound p s
  sound = reached-sound p is s b.reached

  -- all are finished where no task is begun and none is ready
  pub board-over : ((hand t : ℕ) → HasBegun s hand t → ⊥) → ((t : ℕ) → IsReady p s t → ⊥) → AllFinished p.graph s
  board-over begun ready t below = go (s.number t) refl
    where
      go : (o : Option ℕ) → s.number t ≡ o → IsSome (s.number t)
      go (Some n) e = let some : IsSome (Some n) = refl in subst (λ (o : Option ℕ). IsSome o) (sym e) some
      go None e = absurd (⊎_elim
          (λ (one : (u : ℕ) × IsReady p s u). ready one.0 one.1)
          (λ (two : (hand : ℕ) × ((u : ℕ) × HasBegun s hand u)). begun two.0 two.1.0 two.1.1)
          (board-goes p is s b t below e))

  module _ (all : AllFinished p.graph s) where
    -- each cell is written
    pub cell-written : (c : ℕ) → c < p.graph.cells → IsSome (s.value c)
    cell-written c below = ⊎_elim
        (λ (input : c < p.graph.inputs). sound.written.inputs c input)
        (λ (made : p.graph.inputs ≤ c). let there = is.graph.partition.some c made below in sound.written.whole there.0 c (all there.0 there.1) there.2)
        (cases_lt c p.graph.inputs)

    pub cell-right : (c : ℕ) (v : Outcome) → Some v ≡ s.value c → v ≡ outcome_at p.solution c
    cell-right c v at = sound.written.right c v (sym at)

    pub cell-small : (c : ℕ) (v : Outcome) → c < p.graph.cells → Some v ≡ s.value c → IsSmall v
    cell-small c v below at = subst IsSmall (sym (cell-right c v at)) (outcome-small p is c below)

    -- each task has a number
    pub number-below : (t n : ℕ) → Some n ≡ s.number t → n < length p.graph.tasks
    number-below t n at = omega (arith, sound.numbers.below t n (sym at), finished-all p s sound all)

    -- one number more
    pub number-more : (order : List ℕ) (t n : ℕ) → length order ≡ length p.graph.tasks → Some n ≡ s.number t → ((u m : ℕ) → u < t → s.number u ≡ Some m → get_or order m 0 ≡ u)
        → (u m : ℕ) → u < t + 1 → s.number u ≡ Some m → get_or (slice_set order n t) m 0 ≡ u
    number-more order t n size at before u m below is_number = ⊎_elim
        (λ (this : u ≡ t).
        let same : Some m ≡ Some n = sym is_number ∙ ap s.number this ∙ sym at in
        let e : m ≡ n = cc in
        ap (λ k. get_or (slice_set order n t) k 0) e ∙ get_or-set_same order n t 0 (let b = number-below t n at in omega (arith, size)) ∙ sym this)
        (λ (other : u ≡ t → ⊥).
        get_or-set_other order n m t 0 (λ e. other (sound.numbers.once u t m is_number (sym at ∙ ap (λ k. Some k) (sym e))))
        ∙ before u m (omega arith) is_number)
        (cases_eq u t)

    -- the tasks by their numbers
    pub numbers-lawful : (order : List ℕ) → length order ≡ length p.graph.tasks → ((u m : ℕ) → u < length p.graph.tasks → s.number u ≡ Some m → get_or order m 0 ≡ u) → IsLawful p.graph order
    numbers-lawful order size placed = subst (λ o. IsLawful p.graph o) (sym same) (lawful-order p s sound all)
      where
        many : length (by_number p.graph s.number s.finished) ≡ s.finished
        many = length-map-range_with_len (task_numbered s.number (length p.graph.tasks)) 0 s.finished

        same : order ≡ by_number p.graph s.number s.finished
        same = ext_get_or 0 order (by_number p.graph s.number s.finished) (omega (arith, size, many, finished-all p s sound all)) (λ i below.
            let under : i < s.finished = omega (arith, size, finished-all p s sound all) in
            let at = numbered-is p s sound i under in
            let t = task_numbered s.number (length p.graph.tasks) i in
            placed t i (is-task p s sound t (some-of (s.number t) i at)) at
            ∙ sym (get_or-map-range_with_len (task_numbered s.number (length p.graph.tasks)) 0 s.finished i i 0 under (zero-add i)))

-- all cells are told
pub cells-all : (p : Plan) → IsPlan p → (outcomes : List Outcome) (k : ℕ) → length outcomes ≡ p.graph.cells → p.graph.cells ≤ k → ((c : ℕ) → c < k → slice_get outcomes c ≡ Some (outcome_at p.solution c)) → outcomes ≡ p.solution
unfolding outcome_at
cells-all p is outcomes k size past told =
    ext_get_or (Value (pos 0)) outcomes p.solution (size ∙ sym is.size) (λ c below. get_or_from_slice_get outcomes c (outcome_at p.solution c) (Value (pos 0)) (told c (omega (arith, size))))
