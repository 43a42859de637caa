-- When the turn of a task begins, its traps can be written, and its cells can be copied.
use Rattle.std.proofs.Common.{◌≡◌, ◌∙◌, refl, sym, ap, inl, inr, ℕ, ◌<◌, ◌≤◌, ◌^◌, List, [], length, map, slice_get, Some, arith}
use Rattle.std.specs.List.{All, Contains, flat_map}
use Rattle.std.proofs.lemmas.List.{length-map}
use Rattle.pb_base.proofs.ListLemmas.{in_at, in_none}
use Rattle.pb_values.specs.Cells.{Turn}
use Rattle.pb_values.specs.declared.outcome.Outcome.{Outcome}
use Rattle.pb_values.specs.declared.outcome.Outcome.TheVariants.{Trapped}
use Rattle.pb_values.specs.declared.outcome.Trap.{Trap}
use Rattle.pb_values.specs.declared.view.View.{View}
use Rattle.pb_program.specs.Configs.{ConfigValue}
use Rattle.pb_program.specs.Trees.{ProgTransform}
use Rattle.pb_model.specs.Calls.{Outcomes}
use Rattle.pb_check.specs.Orders.{AnalysisValue}
use Rattle.pb_taskgraph.specs.Graphs.{TaskValue}
use Rattle.pb_taskgraph.specs.Plans.{Plan}
use Rattle.pb_taskgraph.specs.Turns.{Begins, MayRead, after_some}
use Rattle.pb_taskgraph.specs.declared.limits.TheConstants.{MOST_CELLS}
use Rattle.pb_taskgraph.proofs.TurnLemmas.{may-read}
use Rattle.pb_plan.proofs.JobLemmas.{at_map}
use Rattle.pb_plan.proofs.LinkedLemmas.{index_is}
use Rattle.pb_solution.proofs.MayLemmas.{map_same}
use Rattle.pb_views.specs.Seats.{seat_cells}
use Rattle.pb_walk.specs.declared.stop.Stop.{Stop}
use Rattle.pb_steps.specs.Handed.{IsEntered, MayUse}
use Rattle.pb_steps.specs.Handed.{outcome_of, total}
use Rattle.pb_steps.specs.Handed.{source_number}
use Rattle.pb_steps.specs.Handed.{Copied, Failed, Instance, Step, by_copy, by_trap, cells_of, copied_stops, stop_number}
use Rattle.pb_steps.proofs.Handed.{total_append}
use Rattle.pb_steps.proofs.Handed.{in_steps}
use Rattle.pb_steps.proofs.Handed.{made, ms, run, run_only, run_right}
use Rattle.pb_steps.proofs.Handed.{copied_use}
use Rattle.pb_steps.specs.Stands.{AreViewsOf}
use Rattle.pb_run_graph.specs.Handed.{AreTasksOf, plan_of_run, step_order}
use Rattle.pb_run_graph.proofs.Handed.{may_read}
use Rattle.pb_run_graph.specs.Ready.{IsSeatedPart}
use Rattle.pb_jobs.specs.Jobs.{IsNext}
use Rattle.pb_jobs.proofs.ListLemmas.{all_contained}
use Rattle.pb_run_work.specs.Copies.{IsCopy}
use Rattle.pb_run_work.specs.Traps.{AreNumbers, IsLeft}
use Rattle.pb_run_work.proofs.PlacedLemmas.{IsShownAt, shown_at}

pub later : (p : Plan) (t n c : ℕ) → MayRead p t 0 c → MayRead p t n c
later p t n c (inl low) = inl low
later p t n c (inr (inl m)) = inr (inl m)
later p t n c (inr (inr own)) = absurd (in_none c own)

module _ (p : List ProgTransform) (found : List AnalysisValue) (config : ConfigValue) (grain depth number : ℕ) (ins : List Outcomes) (h : IsEntered p found config number ins) (tasks : List TaskValue) (are : AreTasksOf (run p found config grain depth number ins h).steps tasks) where
  abbrev steps : List Step
  steps = (run p found config grain depth number ins h).steps

  abbrev all : List Outcomes
  all = ms p found config grain depth number ins h

  abbrev pub plan : Plan
  plan = plan_of_run ins all steps tasks

  below : (k : ℕ) (s : Step) → slice_get steps k ≡ Some s → (c : ℕ) → Contains (cells_of s) c → c < total all
  below k s e c own = (run_only p found config grain depth number ins h c (in_steps steps k s e c own)).1

  used_below : (k c : ℕ) → MayUse ins steps k 0 c → c < total all
  used_below k c (inl low) = let both = total_append ins (made p found config grain depth number ins h) in omega (arith, both, low)
  used_below k c (inr (inl m)) = below m.0 m.1 m.3 c m.4
  used_below k c (inr (inr m)) = absurd (in_none c m.2)

  module _ (k : ℕ) (start : Turn) (b : Begins plan k start) where
    order_is : (s : Step) → slice_get steps k ≡ Some s → plan.order k ≡ cells_of s
    unfolding plan_of_run step_order
    order_is s e = index_is (map cells_of steps) k (cells_of s) (at_map cells_of steps k s e)

    pub left_is : (s : Step) → slice_get steps k ≡ Some s → start.left ≡ map (λ c. (c, outcome_of all c)) (cells_of s)
    unfolding plan_of_run
    left_is s e = b.left ∙ ap (map (λ c. (c, outcome_of all c))) (order_is s e)

    -- ---- traps
    module _ (f : Failed) (e : slice_get steps k ≡ Some (by_trap f)) where
      pub trap_left : (trap : Trap) → f.outcome ≡ Trapped trap → IsLeft trap (flat_map seat_cells f.seats) start
      unfolding cells_of
      trap_left trap is =
          left_is (by_trap f) e
          ∙ map_same (λ c. (c, outcome_of all c)) (λ c. (c, Trapped trap)) (flat_map seat_cells f.seats) (λ c own. let o = run_right p found config grain depth number ins h k (by_trap f) e c own ∙ is in ap (λ v. (c, v)) o)

      pub trap_numbers : total all ≤ MOST_CELLS → AreNumbers (flat_map seat_cells f.seats)
      unfolding cells_of
      trap_numbers few = all_contained (λ c. c < 2 ^ 64) (flat_map seat_cells f.seats) (λ c own. let low = below k (by_trap f) e c own in omega (arith, low, few))

    -- ---- a stop of a step whose cells are those of stops
    module _ (s : Step) (e : slice_get steps k ≡ Some s) (i : Instance) (stops : List Stop) (cells : cells_of s ≡ map (stop_number i) stops) where
      pub stop_count : length start.left ≡ length stops
      stop_count = ap length (left_is s e) ∙ length-map (cells_of s) (λ c. (c, outcome_of all c)) ∙ ap length cells ∙ length-map stops (stop_number i)

      pub stop_left : (n : ℕ) (z : Stop) → slice_get stops n ≡ Some z → slice_get start.left n ≡ Some (stop_number i z, outcome_of all (stop_number i z))
      stop_left n z at =
          ap (λ l. slice_get l n) (left_is s e ∙ ap (map (λ c. (c, outcome_of all c))) cells)
          ∙ at_map (λ c. (c, outcome_of all c)) (map (stop_number i) stops) n (stop_number i z) (at_map (stop_number i) stops n z at)

      pub stop_next : (views : List View) (n : ℕ) (z : Stop) → slice_get stops n ≡ Some z → IsShownAt i views z → (o : Outcome) → o ≡ outcome_of all (stop_number i z) → IsNext views start n z o
      stop_next views n z at shown o is = record {
        view = shown.view;
        at = shown.at;
        inside = shown.inside;
        next = stop_left n z at ∙ (λ j. Some (sym shown.cell j, sym is j));
      }

    -- ---- copies
    module _ (i : Instance) (c : Copied) (e : slice_get steps k ≡ Some (by_copy i c)) (views : List View) (laid : AreViewsOf i.transform.matrices i.seats views) (seated : All (IsSeatedPart i.transform.matrices i.found.nodes i.seats) c.parts) where
      told : (n : ℕ) (s : Stop) → Contains (copied_stops i c) s → (after_some n start).outcomes (source_number c s) ≡ Some (outcome_of all (stop_number i s))
      unfolding plan_of_run
      told n s there =
          may-read plan k start b n (after_some n start) refl (source_number c s)
          (later plan k n (source_number c s) (may_read p found config grain depth number ins h tasks are k 0 (source_number c s) (copied_use p found config grain depth number ins h k i c e s there)))
          ∙ ap Some (sym (run_right p found config grain depth number ins h k (by_copy i c) e s there))

      copied_cells : cells_of (by_copy i c) ≡ map (stop_number i) (copied_stops i c)
      unfolding cells_of
      copied_cells = refl

      pub copy_ready : total all ≤ MOST_CELLS → IsCopy views c.corner c.source (copied_stops i c) start
      copy_ready few = record {
        count = stop_count (by_copy i c) e i (copied_stops i c) copied_cells;
        each = λ n s at.
            let there = in_at (copied_stops i c) n s at in
            let low = used_below k (source_number c s) (copied_use p found config grain depth number ins h k i c e s there) in
            record {
              number = omega (arith, low, few);
              outcome = outcome_of all (stop_number i s);
              told = told n s there;
              next = stop_next (by_copy i c) e i (copied_stops i c) copied_cells views n s at (shown_at i views laid c.parts seated [] s there) (outcome_of all (stop_number i s)) refl;
            };
      }
