-- What is known of a run, and of its steps when their turns begin.
use Rattle.std.proofs.Common.{◌≡◌, ◌∙◌, refl, sym, ap, subst, ℕ, ◌<◌, ◌≤◌, List, [], length, get_or, slice_get, Some, arith}
use Rattle.std.proofs.lemmas.Grind.{flat_map-append}
use Rattle.std.specs.Prelude.{slice_index_or}
use Rattle.std.proofs.lemmas.List.{length-map}
use Rattle.std.proofs.lemmas.Option.{slice_get_within}
use Rattle.pb_linear.specs.Sizes.{sizes_of}
use Rattle.pb_values.specs.Cells.{Turn}
use Rattle.pb_program.specs.Trees.{bare_prog, bare_transform}
use Rattle.pb_model.specs.Calls.{Outcomes, no_outcome}
use Rattle.pb_check.specs.Accepting.{AcceptedValue}
use Rattle.pb_check.specs.Orders.{AnalysisValue}
use Rattle.pb_frame.specs.Frames.{JobValue}
use Rattle.pb_graph.proofs.NumberedLemmas.{at_index}
use Rattle.pb_links.specs.declared.places.Spot.{Spot}
use Rattle.pb_plan.specs.Boxes.{spot_of}
use Rattle.pb_plan.proofs.JobLemmas.{at_map}
use Rattle.pb_plan.proofs.LinkedLemmas.{at_zip}
use Rattle.pb_taskgraph.specs.Plans.{IsPlan, outcome_at}
use Rattle.pb_taskgraph.specs.Turns.{Begins}
use Rattle.pb_solution.specs.Solutions.{outcomes_of}
use Rattle.pb_walk.specs.Walks.{walk_of}
use Rattle.pb_steps.specs.Handed.{matrices_at}
use Rattle.pb_steps.specs.Handed.{total}
use Rattle.pb_run_graph.specs.Handed.{plan_of_run}
use Rattle.pb_run_graph.proofs.Handed.{is_plan}
use Rattle.pb_run_graph.specs.Linking.{CanBeLinked}
use Rattle.pb_steps.specs.Runs.{UnrolledValue}
use Rattle.pb_steps.specs.Stands.{IsStep}
use Rattle.pb_steps.specs.Values.{CopiedValue, InstanceValue}
use Rattle.pb_steps.specs.declared.step.Step.{Step as StepValue}
use Rattle.pb_steps.specs.declared.step.Step.TheVariants as step
use Rattle.pb_jobs.specs.Jobs.{CanBeMade, JobValue as Made}
use Rattle.pb_jobs.specs.Rooms.{HasRoomForJob}
use Rattle.pb_jobs.specs.declared.room.Rooms.{Rooms}
use Rattle.pb_jobs.proofs.ListLemmas.{all_at, some_at, some_same, zip_both, zip_length}
use Rattle.pb_run_work.specs.Copies.{IsCopy}
use Rattle.pb_run_work.specs.Running.{ArePieces, HasRoomForStep, IsBegun, IsRunning, IsSight, RunValue, all_of, ins_of, prog_of, run_plan, steps_of}
use Rattle.pb_run_work.specs.Seen.{IsSeenAs, PiecesValue, SightValue, job_as, made_of, seen_by}
use Rattle.pb_run_work.specs.Steps.{CanRunJobAt, CanRunStep, HasSight}
use Rattle.pb_run_work.proofs.InputLemmas.{index_left, total_is}
use Rattle.pb_run_work.proofs.LinkedLemmas.{copy_is_ready, trap_are_numbers, trap_is_left}
use Rattle.pb_run_work.proofs.SeenLemmas.{can_be_made, is_ready, layer_there}

pub linked_of : (a : AcceptedValue) (u : UnrolledValue) (r : RunValue) → IsBegun a r.config r.grain r.depth r.number (ins_of r) u r.graph → CanBeLinked a u (total (ins_of r))
linked_of a u r is = record {
  config = r.config;
  grain = r.grain;
  depth = r.depth;
  number = r.number;
  ins = ins_of r;
  entered = is.entered;
  steps = is.steps;
  met = is.met;
  seated = is.seated;
  side = is.within.side;
  cells = is.within.cells;
  small = is.small;
  given = refl;
}

-- an instance, as its sight shows it
pub seen_as : (a : AcceptedValue) (v : InstanceValue) (s : SightValue) (z : IsSight a v s) → IsSeenAs a.program v (seen_by a.program z.transform v s)
seen_as a v s z = record {
  program = refl;
  number = refl;
  transform = at_map bare_transform a.program.transforms v.transform z.transform z.there;
  sizes = refl;
  views = z.views;
}

module _ (r : RunValue) (is : IsRunning r) where
  abbrev a : AcceptedValue
  a = r.accepted

  abbrev u : UnrolledValue
  u = r.unrolled

  abbrev linked : CanBeLinked a u (total (ins_of r))
  linked = linked_of a u r is.begun

  pub graph_is : r.graph ≡ (run_plan r).graph
  unfolding run_plan plan_of_run
  graph_is = is.begun.graph

  pub plan_is : IsPlan (run_plan r)
  unfolding run_plan
  plan_is = is_plan (prog_of r) a.found r.config r.grain r.depth r.number (ins_of r) is.begun.entered r.graph.tasks is.begun.tasks is.begun.small is.begun.within

  -- ---- a task
  pub step_there : (task : ℕ) → task < length (run_plan r).graph.tasks → (x : StepValue) × (slice_get u.steps task ≡ Some x)
  unfolding run_plan plan_of_run
  step_there task below = some_at u.steps task (omega (arith, below, is.begun.tasks.count, zip_length (IsStep (prog_of r) a.found u.instances) u.steps (steps_of r) is.begun.steps))

  module _ (task : ℕ) (turn : Turn) (b : Begins (run_plan r) task turn) where
    begins : Begins (plan_of_run (ins_of r) (all_of r) (steps_of r) r.graph.tasks) task turn
    unfolding run_plan
    begins = b

    -- its pieces and its room
    job_can : (m j : ℕ) → slice_get u.steps task ≡ Some (step.Job m j) → (q : PiecesValue) → ArePieces a u.instances (step.Job m j) q → HasRoomForStep a u.instances r.rooms (step.Job m j) → HasSight r.sights m (λ s. CanRunJobAt a u.instances q r.rooms turn m j s)
    unfolding linked_of
    job_can m j at q pieces room =
        let v = pieces.value in
        let found = pieces.found in
        let job = pieces.is.job in
        let sight = at_zip (IsSight a) u.instances r.sights is.sights m v pieces.there in
        let s = sight.0 in
        let z = sight.2 in
        let w = seen_by a.program z.transform v s in
        let same_v : room.value ≡ v = some_same room.value v (sym room.there ∙ pieces.there) in
        let same_found : room.found ≡ found = some_same room.found found (sym room.is_found ∙ ap (λ (x : InstanceValue). slice_get a.found x.transform) same_v ∙ pieces.is_found) in
        let same_job : room.is.job ≡ job = some_same room.is.job job (sym room.is.there ∙ ap (λ (x : InstanceValue). slice_get x.jobs j) same_v ∙ pieces.is.there) in
        let enough : HasRoomForJob (bare_prog a.program) v.transform (sizes_of v.sizes) r.rooms (job_as found job) =
        subst (λ (x : InstanceValue × AnalysisValue × JobValue). HasRoomForJob (bare_prog a.program) x.0.transform (sizes_of x.0.sizes) r.rooms (job_as x.1 x.2)) (λ i. (same_v i, same_found i, same_job i)) room.is.is in
        let made_is : job_as found job ≡ made_of found job q = λ i. record { parts = sym pieces.is.is.parts i; rule = job.rule; rules = sym pieces.is.is.rules i; steps = (job_as found job).steps } in
        record {
          sight = s;
          is_sight = sight.1;
          is = record {
            value = v;
            there = pieces.there;
            job = job;
            has = pieces.is.there;
            can = record {
              transform = z.transform;
              there = z.there;
              found = found;
              is_found = pieces.is_found;
              layer = layer_there a u (total (ins_of r)) linked m v pieces.there w (seen_as a v s z) r.graph.tasks is.begun.tasks task j at job pieces.is.there found pieces.is_found;
              ready = is_ready a u (total (ins_of r)) linked m v pieces.there w (seen_as a v s z) z.windows;
              can = subst (λ (x : Made). CanBeMade w x turn) made_is (can_be_made a u (total (ins_of r)) linked m v pieces.there w (seen_as a v s z) r.graph.tasks is.begun.tasks task j at job pieces.is.there found pieces.is_found turn begins);
              room = subst (HasRoomForJob (bare_prog a.program) v.transform (sizes_of v.sizes) r.rooms) made_is enough;
            };
          };
        }

    copy_can : (x : CopiedValue) → slice_get u.steps task ≡ Some (step.Copy x) → (q : PiecesValue) → ArePieces a u.instances (step.Copy x) q → HasRoomForStep a u.instances r.rooms (step.Copy x)
        → HasSight r.sights x.instance (λ s. IsCopy s.views x.corner x.source (walk_of [] q.parts) turn × (length q.parts ≤ r.rooms.pieces))
    unfolding linked_of
    copy_can x at q pieces room =
        let v = pieces.value in
        let found = pieces.found in
        let sight = at_zip (IsSight a) u.instances r.sights is.sights x.instance v pieces.there in
        let z = sight.2 in
        let there = at_map bare_transform a.program.transforms v.transform z.transform z.there in
        let copied = copy_is_ready a u (total (ins_of r)) linked r.graph.tasks is.begun.tasks task turn begins x at v pieces.there (bare_transform z.transform) there found pieces.is_found sight.0.views z.views in
        record {
          sight = sight.0;
          is_sight = sight.1;
          is = (
            subst (λ (parts : List Spot). IsCopy sight.0.views x.corner x.source (walk_of [] parts) turn) (sym pieces.is) copied,
            omega (arith, room, ap length pieces.is, length-map x.parts (spot_of found.nodes)),
          );
        }

    -- it can be run
    pub step_can : (x : StepValue) → slice_get u.steps task ≡ Some x → (q : PiecesValue) → slice_get r.pieces task ≡ Some q → CanRunStep a u.instances r.sights q r.rooms r.rooms.pieces turn x
    unfolding linked_of
    step_can x at q at_q = by x at (zip_both (ArePieces a u.instances) u.steps r.pieces is.pieces task x q at at_q) (all_at (HasRoomForStep a u.instances r.rooms) u.steps task x is.rooms at)
      where
        by : (x : StepValue) → slice_get u.steps task ≡ Some x → ArePieces a u.instances x q → HasRoomForStep a u.instances r.rooms x → CanRunStep a u.instances r.sights q r.rooms r.rooms.pieces turn x
        by (step.Job m j) e pieces room = job_can m j e q pieces room
        by (step.Copy x) e pieces room = copy_can x e q pieces room
        by (step.Trap f) e pieces room = (
          trap_is_left a u (total (ins_of r)) linked r.graph.tasks is.begun.tasks task turn begins f e,
          trap_are_numbers a u (total (ins_of r)) linked r.graph.tasks is.begun.tasks task turn begins f e,
        )

  -- ---- what its parts hold, as the code has them
  pub steps_below : (task : ℕ) → task < length (run_plan r).graph.tasks → task < length u.steps
  steps_below task below = let at = step_there task below in slice_get_within u.steps task at.0 at.1

  pub pieces_below : (task : ℕ) → task < length (run_plan r).graph.tasks → task < length r.pieces
  pieces_below task below = omega (arith, steps_below task below, zip_length (ArePieces a u.instances) u.steps r.pieces is.pieces)

  pub task_can : (task : ℕ) (turn : Turn) → Begins (run_plan r) task turn → task < length (run_plan r).graph.tasks → (accepted : AcceptedValue) → accepted ≡ a → (instances : List InstanceValue) → instances ≡ u.instances → (sights : List SightValue) → sights ≡ r.sights
      → (steps : List StepValue) → steps ≡ u.steps → (x : StepValue) → x ≡ get_or steps task x → (pieces : List PiecesValue) → pieces ≡ r.pieces → (q : PiecesValue) → q ≡ get_or pieces task q → (rooms : Rooms) → rooms ≡ r.rooms → (room : ℕ) → room ≡ r.rooms.pieces
      → CanRunStep accepted instances sights q rooms room turn x
  task_can task turn b below accepted same_a instances same_i sights same_s steps same_t x at_x pieces same_p q at_q rooms same_r room same_w =
      let there : slice_get u.steps task ≡ Some x = at_index u.steps task x (steps_below task below) (at_x ∙ ap (λ (l : List StepValue). get_or l task x) same_t) in
      let has : slice_get r.pieces task ≡ Some q = at_index r.pieces task q (pieces_below task below) (at_q ∙ ap (λ (l : List PiecesValue). get_or l task q) same_p) in
      subst (λ (z : AcceptedValue × List InstanceValue × List SightValue × Rooms × ℕ). CanRunStep z.0 z.1 z.2 q z.3 z.4 turn x) (λ i. (sym same_a i, sym same_i i, sym same_s i, sym same_r i, sym same_w i))
      (step_can task turn b x there q has)

  -- ---- inputs
  pub input_there : (cell : ℕ) → cell < (run_plan r).graph.inputs → cell < length (outcomes_of (ins_of r))
  unfolding run_plan plan_of_run
  input_there cell below = omega (arith, below, total_is (ins_of r))

  pub input_is : (cell : ℕ) → cell < length (outcomes_of (ins_of r)) → outcome_at (outcomes_of (ins_of r)) cell ≡ outcome_at (run_plan r).solution cell
  unfolding run_plan plan_of_run outcomes_of outcome_at
  input_is cell below =
      let made = matrices_at (prog_of r) a.found r.config r.grain r.depth r.number (ins_of r) in
      sym (ap (λ os. slice_index_or os cell no_outcome) (flat_map-append (λ (m : Outcomes). m.cells) (ins_of r) made) ∙ index_left (outcomes_of (ins_of r)) (outcomes_of made) cell no_outcome below)
