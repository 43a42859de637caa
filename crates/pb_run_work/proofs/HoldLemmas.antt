-- What is held of the instances and of the steps of a run can be made.
use Rattle.std.proofs.Common.{◌≡◌, ◌∙◌, sym, ap, subst, ℕ, ◌+◌, ◌<◌, List, length, take, get_or, slice_get, Some, arith}
use Rattle.std.specs.List.{All, AllZip}
use Rattle.std.proofs.lemmas.List.Elements.{All-more}
use Rattle.std.proofs.lemmas.Option.{slice_get_within}
use Rattle.pb_base.proofs.ListLemmas.{at_in}
use Rattle.pb_linear.specs.Sizes.{leasts_of, sizes_of}
use Rattle.pb_linear.proofs.SizesLemmas.{in_range_top}
use Rattle.pb_program.specs.Transforms.{TransformValue}
use Rattle.pb_program.specs.Trees.{ProgTransform, bare_prog, bare_rule, bare_transform}
use Rattle.pb_program.specs.WellFormed.{IsWellFormed}
use Rattle.pb_region.specs.Small.{IsSmallRead}
use Rattle.pb_region.proofs.SmallLemmas.{small_rule}
use Rattle.pb_check.specs.Accepting.{AcceptedValue}
use Rattle.pb_frame.specs.declared.part.FramePart.{FramePart}
use Rattle.pb_plan.proofs.BoxLemmas.{steady}
use Rattle.pb_plan.proofs.JobLemmas.{at_map, map_at}
use Rattle.pb_plan.proofs.LinkedLemmas.{at_zip}
use Rattle.pb_taskgraph.specs.Graphs.{TaskValue}
use Rattle.pb_views.specs.Windows.{AreSteady}
use Rattle.pb_steps.specs.Runs.{UnrolledValue}
use Rattle.pb_steps.specs.Stands.{IsSeatFor, IsSeated}
use Rattle.pb_steps.specs.Values.{CopiedValue, InstanceValue}
use Rattle.pb_steps.specs.declared.step.Step.{Step as StepValue}
use Rattle.pb_steps.specs.declared.step.Step.TheVariants as step
use Rattle.pb_run_graph.specs.Handed.{AreTasksOf}
use Rattle.pb_run_graph.specs.Linking.{CanBeLinked}
use Rattle.pb_run_graph.specs.Ready.{CanMake, IsSeatedPart}
use Rattle.pb_run_graph.proofs.StepLemmas.{all_can}
use Rattle.pb_jobs.specs.Rooms.{Grows}
use Rattle.pb_jobs.specs.Shown.{HasSteadyViews}
use Rattle.pb_jobs.specs.declared.room.Rooms.{Rooms}
use Rattle.pb_jobs.proofs.ListLemmas.{all_at, all_contained, all_weaker, zip_length}
use Rattle.pb_jobs.proofs.RoomLemmas.{job_grows}
use Rattle.pb_run_work.specs.Holding.{CanBeCut, CanBeSeen}
use Rattle.pb_run_work.specs.Planned.{steps_for}
use Rattle.pb_run_work.specs.Running.{HasRoomForStep, IsSight}
use Rattle.pb_run_work.specs.Seen.{SightValue, job_as, seen_by}
use Rattle.pb_run_work.proofs.RunningLemmas.{seen_as}
use Rattle.pb_run_work.proofs.SeenLemmas.{has_needs, is_ready}

-- what holds at each place holds of all
pub all_placed : {A : Type 0} (P : A → Type 0) (xs : List A) → ((k : ℕ) (x : A) → slice_get xs k ≡ Some x → P x) → All P xs
all_placed P xs f = all_contained P xs (λ x own. let at = at_in xs x own in f at.0 x at.1)

-- ---- instances
-- the coefficients of a program's views are small
pub steady_views : (p : List ProgTransform) → IsWellFormed p → (t : ℕ) (x : TransformValue) → slice_get p t ≡ Some (bare_transform x) → All HasSteadyViews x.rules
steady_views p well t x there = all_placed HasSteadyViews x.rules (λ k r at.
    let small = small_rule p well t (bare_transform x) there k (bare_rule r) (at_map bare_rule x.rules k r at) in
    record {
      reads = all_placed AreSteady r.reads (λ j q at_q. steady q (all_at IsSmallRead r.reads j q small.reads at_q));
      outs = all_placed AreSteady r.outs (λ j q at_q. steady q (all_at IsSmallRead r.outs j q small.outs at_q));
    })

module _ (a : AcceptedValue) (u : UnrolledValue) (inputs : ℕ) (c : CanBeLinked a u inputs) where
  abbrev p : List ProgTransform
  p = bare_prog a.program

  can_be_seen : (v : InstanceValue) → IsSeated p a.found c.config c.grain v → CanBeSeen a v
  can_be_seen v s =
      let from = map_at bare_transform a.program.transforms v.transform s.transform s.there in
      record {
        transform = from.0;
        there = from.1;
        steady = steady_views p c.entered.well v.transform from.0 (s.there ∙ ap Some (sym from.2));
        top = in_range_top (leasts_of s.transform.ranges) v.sizes s.in_range;
        small = s.small;
        count = sym (zip_length (IsSeatFor (sizes_of v.sizes)) s.transform.matrices v.seats s.seats) ∙ ap (λ (t : ProgTransform). length t.matrices) (sym from.2);
      }

  pub all_seen : All (CanBeSeen a) u.instances
  all_seen = all_weaker (IsSeated p a.found c.config c.grain) (CanBeSeen a) u.instances can_be_seen c.seated

  -- ---- steps
  module _ (tasks : List TaskValue) (are : AreTasksOf (steps_for c) tasks) (sights : List SightValue) (held : AllZip (IsSight a) u.instances sights) where
    can : (k : ℕ) (x : StepValue) → slice_get u.steps k ≡ Some x → CanMake p a.found u.instances x
    can k x at = all_at (CanMake p a.found u.instances) u.steps k x (all_can a u inputs c) at

    job_cut : (k m j : ℕ) → slice_get u.steps k ≡ Some (step.Job m j) → CanMake p a.found u.instances (step.Job m j) → CanBeCut a u.instances (step.Job m j)
    job_cut k m j at made =
        let v = made.value in
        let job = made.is.0 in
        let place = made.is.2 in
        let sight = at_zip (IsSight a) u.instances sights held m v made.there in
        let w = seen_by a.program sight.2.transform v sight.0 in
        let seen = seen_as a v sight.0 sight.2 in
        let ready = is_ready a u inputs c m v made.there w seen sight.2.windows in
        record {
          value = v;
          there = made.there;
          found = place.analysis;
          is_found = place.is_found;
          is = (
            place.is.top,
            record {
              job = job;
              there = made.is.1;
              is = (place.is.has_nodes, has_needs a u inputs c m v made.there w seen tasks are k j at job made.is.1 place.analysis place.is_found ready);
            },
          );
        }

    copy_cut : (x : CopiedValue) → CanMake p a.found u.instances (step.Copy x) → CanBeCut a u.instances (step.Copy x)
    copy_cut x made =
        let some = made.is in
        record {
          value = made.value;
          there = made.there;
          found = some.analysis;
          is_found = some.is_found;
          is = all_weaker (IsSeatedPart some.transform.matrices some.analysis.nodes made.value.seats) (λ (part : FramePart). part.node < length some.analysis.nodes) x.parts (λ part q. slice_get_within some.analysis.nodes part.node q.node q.is) some.is;
        }

    pub all_cut : All (CanBeCut a u.instances) u.steps
    all_cut = all_placed (CanBeCut a u.instances) u.steps (λ k x at. by k x at (can k x at))
      where
        by : (k : ℕ) (x : StepValue) → slice_get u.steps k ≡ Some x → CanMake p a.found u.instances x → CanBeCut a u.instances x
        by k (step.Job m j) at made = job_cut k m j at made
        by k (step.Copy x) at made = copy_cut x made
        by k (step.Trap f) at made = tt

-- ---- room
module _ (a : AcceptedValue) (instances : List InstanceValue) where
  room_grows : (old new : Rooms) → Grows old new → (x : StepValue) → HasRoomForStep a instances old x → HasRoomForStep a instances new x
  room_grows old new g (step.Job m j) h = record {
    value = h.value;
    there = h.there;
    found = h.found;
    is_found = h.is_found;
    is = record { job = h.is.job; there = h.is.there; is = job_grows (bare_prog a.program) h.value.transform (sizes_of h.value.sizes) old new (job_as h.found h.is.job) g h.is.is };
  }
  room_grows old new g (step.Copy x) h = omega (arith, g.pieces, h)
  room_grows old new g (step.Trap f) h = tt

  -- one step more
  pub next_room : (steps : List StepValue) (i : ℕ) (x : StepValue) (old here new : Rooms) → i < length steps → x ≡ get_or steps i x → Grows old new → Grows here new → HasRoomForStep a instances here x
      → All (HasRoomForStep a instances old) (take i steps) → All (HasRoomForStep a instances new) (take (i + 1) steps)
  next_room steps i x old here new below is g h room so_far =
      All-more (HasRoomForStep a instances new) steps i x below (all_weaker (HasRoomForStep a instances old) (HasRoomForStep a instances new) (take i steps) (λ y r. room_grows old new g y r) so_far)
      (subst (HasRoomForStep a instances new) is (room_grows here new h x room))
