-- Runs of one task after another.
use Rattle.std.proofs.Common.{◌≡◌, ◌∙◌, refl, sym, ap, subst, ⊎_elim, ℕ, ◌<◌, ◌≤◌, ◌+◌, ◌^◌, List, length, drop, get_or, slice_set, Some, IsSome, slice_get, pos, arith}
use Rattle.std.specs.List.{Contains}
use Rattle.std.proofs.Math.Path.{fun_ext}
use Rattle.std.proofs.lemmas.Bool.{cases_eq, cases_lt}
use Rattle.std.proofs.lemmas.Bool.Decides.{nat_tests}
use Rattle.std.proofs.lemmas.Grind.{common_steps}
use Rattle.std.proofs.lemmas.Option.{gets}
use Rattle.std.proofs.lemmas.List.{drop-drop, ext_get_or}
use Rattle.std.proofs.lemmas.Option.{get_or_from_slice_get, slice_get_read}
use Rattle.pb_values.specs.declared.outcome.Outcome.{Outcome}
use Rattle.pb_values.specs.declared.outcome.Outcome.TheVariants.{Value}
use Rattle.pb_values.specs.Cells.{Turn}
use Rattle.pb_taskgraph.specs.Graphs.{cells_of}
use Rattle.pb_taskgraph.specs.Plans.{IsPlan, IsSmall, Plan, outcome_at}
use Rattle.pb_taskgraph.specs.Turns.{Begins, after_all, after_write, entries_of, with_outcome, with_outcomes}
use Rattle.pb_taskgraph.specs.Serial.{IsPort, IsWritten, SerialValue, serial_turn}
use Rattle.pb_taskgraph.proofs.PlanLemmas.{next-below, next-small}
use Rattle.pb_taskgraph.proofs.TurnLemmas.{as_turn, with-in, with-kept}

get-set : (outcomes : List Outcome) (cell : ℕ) (v : Outcome) → cell < length outcomes → (c : ℕ) → slice_get (slice_set outcomes cell v) c ≡ with_outcome (slice_get outcomes) cell v c
get-set outcomes cell v below c = grind (arith, common_steps, gets, nat_tests)

get-inside : (outcomes : List Outcome) (c : ℕ) → IsSome (slice_get outcomes c) → c < length outcomes
get-inside outcomes c some = grind (arith, common_steps, gets)

-- the port of a run of one task after another, as it stands and as callers see it: it tells what it holds, and a write is one
module _ (p : Plan) (port self : SerialValue) (same : port ≡ self) where
  pub serial-inside : (c : ℕ) → IsSome ((serial_turn p self).outcomes c) → c < length port.outcomes
  unfolding serial_turn
  serial-inside c some = get-inside port.outcomes c (subst (λ s. IsSome (slice_get s.outcomes c)) (sym same) some)

  pub serial-read : (c : ℕ) (v : Outcome) → IsSome ((serial_turn p self).outcomes c) → v ≡ get_or port.outcomes c v → (serial_turn p self).outcomes c ≡ Some v
  unfolding serial_turn
  serial-read c v some is = ap (λ s. slice_get s.outcomes c) (sym same) ∙ slice_get_read port.outcomes (length port.outcomes) c v refl (serial-inside c some) is

  module _ (is : IsPort p port.task port.outcomes) (c : ℕ) (v : Outcome) (first : slice_get (serial_turn p self).left 0 ≡ Some (c, v)) where
    pub serial-next : (c < length port.outcomes) × (port.written + 1 < 2 ^ 64)
    unfolding serial_turn
    serial-next =
        let below = next-below p is.plan port.task is.task port.written c v (ap (λ s. slice_get (serial_turn p s).left 0) same ∙ first) in
        (omega (arith, is.size, below.0), below.1)

    pub serial-small : IsSmall v
    unfolding serial_turn
    serial-small = next-small p is.plan port.task is.task port.written c v (ap (λ s. slice_get (serial_turn p s).left 0) same ∙ first)

    pub serial-write : serial_turn p (record { task = port.task; written = port.written + 1; outcomes = slice_set port.outcomes c v }) ≡ after_write (serial_turn p self) c v
    unfolding serial_turn
    serial-write =
        let own = entries_of p.solution (p.order port.task) in
        let told : slice_get (slice_set port.outcomes c v) ≡ with_outcome (slice_get port.outcomes) c v = fun_ext (get-set port.outcomes c v serial-next.0) in
        ap (λ f. as_turn port.task f (drop (port.written + 1) own)) told ∙ ap (as_turn port.task (with_outcome (slice_get port.outcomes) c v)) (sym (drop-drop 1 port.written own))
        ∙ ap (λ s. after_write (serial_turn p s) c v) same

-- a run of one task
module _ (p : Plan) (is : IsPlan p) (t : ℕ) (outcomes : List Outcome) (w : IsWritten p t outcomes) where
  pub serial-begins : Begins p t (serial_turn p (record { task = t; written = 0; outcomes = outcomes }))
  unfolding serial_turn
  serial-begins = record { task = refl; inputs = w.inputs; before = λ u c before own. w.tasks u c (is.graph.linked.smaller t u before) own; left = refl }

  pub serial-done : (task : t < length p.graph.tasks) (after : SerialValue) (new : List Outcome) → serial_turn p after ≡ after_all (serial_turn p (record { task = t; written = 0; outcomes = outcomes })) → new ≡ after.outcomes → length new ≡ p.graph.cells → IsWritten p (t + 1) new
  unfolding serial_turn after_all
  serial-done task after new ended same size = record {
    size = size;
    inputs = λ c input. kept c (w.inputs c input);
    tasks = λ u c before own. ⊎_elim
        (λ (this : u ≡ t). told c ∙ with-in p.solution (p.order t) (slice_get outcomes) c ((is.listed t c task).1 (subst (λ z. Contains (cells_of p.graph z) c) this own)))
        (λ (other : u ≡ t → ⊥). kept c (w.tasks u c (omega arith) own))
        (cases_eq u t);
  }
    where
      told : (c : ℕ) → slice_get new c ≡ with_outcomes (slice_get outcomes) (entries_of p.solution (p.order t)) c
      told c = ap (λ l. slice_get l c) same ∙ ap (λ (turn : Turn). turn.outcomes c) ended

      kept : (c : ℕ) → slice_get outcomes c ≡ Some (outcome_at p.solution c) → slice_get new c ≡ Some (outcome_at p.solution c)
      kept c is_told = told c ∙ with-kept p.solution (p.order t) (slice_get outcomes) c is_told

-- one input cell more
pub inputs-more : (solution outcomes : List Outcome) (cell : ℕ) (v : Outcome) → cell < length outcomes → v ≡ outcome_at solution cell → ((c : ℕ) → c < cell → slice_get outcomes c ≡ Some (outcome_at solution c))
    → (c : ℕ) → c < cell + 1 → slice_get (slice_set outcomes cell v) c ≡ Some (outcome_at solution c)
inputs-more solution outcomes cell v below is before c inside = get-set outcomes cell v below c ∙ grind (arith, nat_tests, before c)

-- when all tasks are run, the outcomes are the solution
pub all-written : (p : Plan) → IsPlan p → (t : ℕ) → length p.graph.tasks ≤ t → (outcomes : List Outcome) → IsWritten p t outcomes → outcomes ≡ p.solution
unfolding outcome_at
all-written p is t past outcomes w = ext_get_or (Value (pos 0)) outcomes p.solution (w.size ∙ sym is.size) (λ c below. get_or_from_slice_get outcomes c (outcome_at p.solution c) (Value (pos 0)) (⊎_elim
    (λ (input : c < p.graph.inputs). w.inputs c input)
    (λ (made : p.graph.inputs ≤ c). let there = is.graph.partition.some c made (omega (arith, w.size)) in w.tasks there.0 c (omega (arith, there.1)) there.2)
    (cases_lt c p.graph.inputs)))
