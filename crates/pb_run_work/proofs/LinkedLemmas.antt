-- Tasks of an unrolled run, as the code holds it.
use Rattle.std.proofs.Common.{◌≡◌, ◌∙◌, sym, ap, subst, ℕ, List, [], map, slice_get, Some}
use Rattle.std.specs.List.{All, flat_map}
use Rattle.pb_values.specs.Cells.{Turn}
use Rattle.pb_values.specs.declared.view.View.{View}
use Rattle.pb_program.specs.Trees.{ProgTransform, bare_prog}
use Rattle.pb_check.specs.Accepting.{AcceptedValue}
use Rattle.pb_check.specs.Orders.{AnalysisValue}
use Rattle.pb_frame.specs.declared.part.FramePart.{FramePart}
use Rattle.pb_taskgraph.specs.Graphs.{TaskValue}
use Rattle.pb_taskgraph.specs.Turns.{Begins}
use Rattle.pb_plan.specs.Boxes.{spot_of}
use Rattle.pb_plan.proofs.LinkedLemmas.{at_zip}
use Rattle.pb_views.specs.Seats.{seat_cells}
use Rattle.pb_views.specs.declared.seat.Seat.{Seat}
use Rattle.pb_walk.specs.Walks.{walk_of}
use Rattle.pb_steps.specs.Handed.{Copied, Failed, Step, by_copy, by_job, by_trap}
use Rattle.pb_steps.specs.Runs.{UnrolledValue}
use Rattle.pb_steps.specs.Stands.{AreViewsOf, IsStep}
use Rattle.pb_steps.specs.Values.{CopiedValue, FailedValue, InstanceValue}
use Rattle.pb_steps.specs.declared.step.Step.{Step as StepValue}
use Rattle.pb_steps.specs.declared.step.Step.TheVariants as step
use Rattle.pb_run_graph.specs.Handed.{AreTasksOf}
use Rattle.pb_run_graph.specs.Linking.{CanBeLinked}
use Rattle.pb_run_graph.specs.Ready.{CanMake, IsSeatedPart}
use Rattle.pb_run_graph.proofs.StepLemmas.{all_can}
use Rattle.pb_jobs.proofs.ListLemmas.{all_at, some_same}
use Rattle.pb_run_work.specs.Copies.{IsCopy}
use Rattle.pb_run_work.specs.Planned.{plan_for, steps_for}
use Rattle.pb_run_work.specs.Traps.{AreNumbers, IsLeft}
use Rattle.pb_run_work.proofs.ReadyLemmas.{copy_ready, trap_left, trap_numbers}

module _ (a : AcceptedValue) (u : UnrolledValue) (inputs : ℕ) (c : CanBeLinked a u inputs) (tasks : List TaskValue) (are : AreTasksOf (steps_for c) tasks) (k : ℕ) (start : Turn) (b : Begins (plan_for c tasks) k start) where
  abbrev p : List ProgTransform
  p = bare_prog a.program

  pub step_is : (x : StepValue) → slice_get u.steps k ≡ Some x → (s : Step) × (slice_get (steps_for c) k ≡ Some s) × IsStep p a.found u.instances x s
  step_is x at = at_zip (IsStep p a.found u.instances) u.steps (steps_for c) c.steps k x at

  -- ---- traps
  module _ (f : FailedValue) (at : slice_get u.steps k ≡ Some (step.Trap f)) where
    pub trap_is_left : IsLeft f.trap (flat_map seat_cells f.seats) start
    trap_is_left = (let s = step_is (step.Trap f) at in by s.0 s.1 s.2)
      where
        by : (s : Step) → slice_get (steps_for c) k ≡ Some s → IsStep p a.found u.instances (step.Trap f) s → IsLeft f.trap (flat_map seat_cells f.seats) start
        by (by_job i job) e h = absurd h
        by (by_copy i d) e h = absurd h
        by (by_trap g) e h =
            subst (λ (seats : List Seat). IsLeft f.trap (flat_map seat_cells seats) start) (ap (λ (q : Failed). q.seats) h)
            (trap_left p a.found c.config c.grain c.depth c.number c.ins c.entered tasks are k start b g e f.trap (ap (λ (q : Failed). q.outcome) h))

    pub trap_are_numbers : AreNumbers (flat_map seat_cells f.seats)
    trap_are_numbers = (let s = step_is (step.Trap f) at in by s.0 s.1 s.2)
      where
        by : (s : Step) → slice_get (steps_for c) k ≡ Some s → IsStep p a.found u.instances (step.Trap f) s → AreNumbers (flat_map seat_cells f.seats)
        by (by_job i job) e h = absurd h
        by (by_copy i d) e h = absurd h
        by (by_trap g) e h =
            subst (λ (seats : List Seat). AreNumbers (flat_map seat_cells seats)) (ap (λ (q : Failed). q.seats) h)
            (trap_numbers p a.found c.config c.grain c.depth c.number c.ins c.entered tasks are k start b g e c.cells)

  -- ---- copies
  module _ (x : CopiedValue) (at : slice_get u.steps k ≡ Some (step.Copy x)) (v : InstanceValue) (at_v : slice_get u.instances x.instance ≡ Some v) (t : ProgTransform) (at_t : slice_get p v.transform ≡ Some t) (found : AnalysisValue) (at_found : slice_get a.found v.transform ≡ Some found) where
    parts_seated : All (IsSeatedPart t.matrices found.nodes v.seats) x.parts
    parts_seated =
        let can = all_at (CanMake p a.found u.instances) u.steps k (step.Copy x) (all_can a u inputs c) at in
        let same = some_same can.value v (sym can.there ∙ at_v) in
        let transform = some_same can.is.transform t (sym can.is.there ∙ ap (λ (q : InstanceValue). slice_get p q.transform) same ∙ at_t) in
        let analysis = some_same can.is.analysis found (sym can.is.is_found ∙ ap (λ (q : InstanceValue). slice_get a.found q.transform) same ∙ at_found) in
        subst (λ (q : ProgTransform × AnalysisValue × InstanceValue). All (IsSeatedPart q.0.matrices q.1.nodes q.2.seats) x.parts) (λ z. (transform z, analysis z, same z)) can.is.is

    pub copy_is_ready : (views : List View) → AreViewsOf t.matrices v.seats views → IsCopy views x.corner x.source (walk_of [] (map (spot_of found.nodes) x.parts)) start
    copy_is_ready views laid = (let s = step_is (step.Copy x) at in by s.0 s.1 s.2)
      where
        by : (s : Step) → slice_get (steps_for c) k ≡ Some s → IsStep p a.found u.instances (step.Copy x) s → IsCopy views x.corner x.source (walk_of [] (map (spot_of found.nodes) x.parts)) start
        by (by_job i job) e h = absurd h
        by (by_trap g) e h = absurd h
        by (by_copy i d) e h =
            let same = some_same h.at.value v (sym h.at.there ∙ at_v) in
            let transform : i.transform ≡ t = some_same i.transform t (sym h.at.is.transform ∙ ap (λ (q : InstanceValue). slice_get p q.transform) same ∙ at_t) in
            let analysis : i.found ≡ found = some_same i.found found (sym h.at.is.analysis ∙ ap (λ (q : InstanceValue). slice_get a.found q.transform) same ∙ at_found) in
            let seats : i.seats ≡ v.seats = h.at.is.seats ∙ ap (λ (q : InstanceValue). q.seats) same in
            let parts : d.parts ≡ x.parts = ap (λ (q : Copied). q.parts) h.is in
            subst (λ (q : Copied × AnalysisValue). IsCopy views q.0.corner q.0.source (walk_of [] (map (spot_of q.1.nodes) q.0.parts)) start) (λ z. (h.is z, analysis z))
            (copy_ready p a.found c.config c.grain c.depth c.number c.ins c.entered tasks are k start b i d e views
            (subst (λ (q : ProgTransform × List Seat). AreViewsOf q.0.matrices q.1 views) (λ z. (sym transform z, sym seats z)) laid)
            (subst (λ (q : ProgTransform × AnalysisValue × List Seat × List FramePart). All (IsSeatedPart q.0.matrices q.1.nodes q.2) q.3) (λ z. (sym transform z, sym analysis z, sym seats z, sym parts z)) parts_seated)
            c.cells)
