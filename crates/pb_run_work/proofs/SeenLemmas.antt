-- The jobs of an unrolled run, as the code holds them.
use Rattle.std.proofs.Common.{◌≡◌, ◌∙◌, refl, sym, ap, subst, ℕ, ◌<◌, List, [], get_or, length, map, slice_get, Option, Some, None, arith}
use Rattle.std.proofs.lemmas.List.Elements.{All-cons, All-nil}
use Rattle.std.proofs.lemmas.Option.{slice_get-get_or}
use Rattle.std.specs.List.{All, AllZip}
use Rattle.pb_linear.specs.Sizes.{InRange, leasts_of, sizes_of}
use Rattle.pb_linear.specs.declared.sizes.Sizes.{Sizes}
use Rattle.pb_values.specs.Cells.{Turn}
use Rattle.pb_program.specs.Transforms.{ProgValue}
use Rattle.pb_program.specs.Trees.{ProgTransform, bare_prog}
use Rattle.pb_program.specs.WellFormed.{IsTransform}
use Rattle.pb_base.proofs.ListLemmas.{map_in}
use Rattle.pb_region.proofs.SmallLemmas.{at_place}
use Rattle.pb_check.specs.Accepting.{AcceptedValue}
use Rattle.pb_check.specs.Orders.{AnalysisValue, IsAnalysis}
use Rattle.pb_frame.specs.Choices.{IsInstance}
use Rattle.pb_frame.proofs.PartLemmas.{top_of}
use Rattle.pb_plan.proofs.LaidLemmas.{tall_at, wide_at}
use Rattle.pb_plan.proofs.LinkedLemmas.{at_zip, zip_at}
use Rattle.pb_views.specs.Layouts.{HasShortSides}
use Rattle.pb_views.specs.Seats.{IsSmall}
use Rattle.pb_run_graph.proofs.MadeLemmas.{are_laid}
use Rattle.pb_jobs.specs.Shown.{AreRuleWindows}
use Rattle.pb_frame.specs.Frames.{JobValue}
use Rattle.pb_frame.specs.declared.part.FramePart.{FramePart}
use Rattle.pb_taskgraph.specs.Graphs.{TaskValue}
use Rattle.pb_taskgraph.specs.Turns.{Begins}
use Rattle.pb_plan.specs.Boxes.{spot_of}
use Rattle.pb_solution.specs.Solutions.{steps_by}
use Rattle.pb_walk.specs.Walks.{walk_of}
use Rattle.pb_steps.specs.Handed.{Step, by_copy, by_job, by_trap}
use Rattle.pb_steps.specs.Runs.{UnrolledValue}
use Rattle.pb_steps.specs.Stands.{IsSeatFor, IsSeated, IsStep}
use Rattle.pb_steps.specs.Values.{InstanceValue}
use Rattle.pb_steps.specs.declared.step.Step.TheVariants as step
use Rattle.pb_run_graph.specs.Handed.{AreTasksOf}
use Rattle.pb_run_graph.specs.Linking.{CanBeLinked}
use Rattle.pb_jobs.specs.Instances.{InstanceValue as Seen, IsReady, of_sizes, of_transform}
use Rattle.pb_jobs.specs.Jobs.{CanBeMade, IsBlock, IsMadeBy, IsWhole}
use Rattle.pb_jobs.specs.Rooms.{HasNeed, HaveNeeds, rules_by}
use Rattle.pb_jobs.proofs.ListLemmas.{all_at, all_contained, some_same}
use Rattle.pb_jobs.proofs.NeedLemmas.{cell_need, whole_need}
use Rattle.pb_jobs.proofs.TaskLemmas.{as_block, as_whole}
use Rattle.pb_run_work.specs.Planned.{plan_for, steps_for}
use Rattle.pb_run_work.specs.Seen.{IsSeenAs, job_as}
use Rattle.pb_run_work.proofs.BlockLemmas.{block_task, layer_is, part_is_cell}
use Rattle.pb_run_work.proofs.StopLemmas.{IsStanding, instance_as, short_sides}
use Rattle.pb_run_work.proofs.WholeLemmas.{whole_task}

module _ (a : AcceptedValue) (u : UnrolledValue) (inputs : ℕ) (c : CanBeLinked a u inputs) (m : ℕ) (v : InstanceValue) (at_v : slice_get u.instances m ≡ Some v) (w : Seen) (seen : IsSeenAs a.program v w) where
  abbrev p : List ProgTransform
  p = bare_prog a.program

  abbrev pub is_seated : IsSeated p a.found c.config c.grain v
  is_seated = all_at (IsSeated p a.found c.config c.grain) u.instances m v c.seated at_v

  pub standing : IsStanding w v.seats
  standing =
      let transform = some_same is_seated.transform (of_transform w) (sym is_seated.there ∙ seen.transform) in
      record {
        sides = subst (λ (q : ProgTransform × Sizes). AllZip (IsSeatFor (sizes_of q.1)) q.0.matrices v.seats) (λ z. (transform z, sym seen.sizes z)) is_seated.seats;
        small = is_seated.small;
        views = seen.views;
      }

  -- ---- it is ready
  abbrev sizes : List ℕ
  sizes = of_sizes w

  there : slice_get p v.transform ≡ Some (of_transform w)
  there = seen.transform

  inst : IsInstance v.transform (of_transform w) is_seated.analysis sizes
  inst =
      let transform = some_same is_seated.transform (of_transform w) (sym is_seated.there ∙ seen.transform) in
      let x = zip_at IsAnalysis p a.found c.entered.are_found v.transform is_seated.analysis is_seated.is_found in
      record {
        program = p;
        well_formed = c.entered.well;
        sound = c.entered.sound;
        there = there;
        found = subst (λ q. IsAnalysis q is_seated.analysis) (some_same x.0 (of_transform w) (sym x.1 ∙ there)) x.2;
        in_range = subst (λ (q : ProgTransform × Sizes). InRange (leasts_of q.0.ranges) (sizes_of q.1)) (λ z. (transform z, sym seen.sizes z)) is_seated.in_range;
      }

  short : All (HasShortSides sizes) (of_transform w).matrices
  short k d below =
      let declared = slice_get-get_or (of_transform w).matrices k d below in
      let seat = at_zip (IsSeatFor sizes) (of_transform w).matrices v.seats standing.sides k (get_or (of_transform w).matrices k d) declared in
      let sides = short_sides seat.0 (all_at IsSmall v.seats k seat.0 standing.small seat.1) in
      record { width = omega (arith, sides.0, seat.2.width); height = omega (arith, sides.1, seat.2.height) }

  pub is_ready : AreRuleWindows sizes (of_transform w).rules w.windows → IsReady w
  is_ready windows = record {
    there = ap (λ (q : ProgValue). slice_get (bare_prog q) w.number) seen.program ∙ ap (slice_get p) seen.number ∙ there;
    fits = subst (λ (q : ProgValue). IsTransform (length (bare_prog q)) (of_transform w)) (sym seen.program) (at_place (IsTransform (length p)) p v.transform (of_transform w) c.entered.well.transforms there);
    top = top_of v.transform (of_transform w) is_seated.analysis w.sizes inst;
    sides = short;
    laid = are_laid (of_transform w).matrices v.seats sizes (record {
      small = standing.small;
      sides = standing.sides;
      natural = λ k d declared. (wide_at v.transform (of_transform w) is_seated.analysis sizes inst k d declared, tall_at v.transform (of_transform w) is_seated.analysis sizes inst k d declared);
    }) w.views seen.views;
    windows = windows;
  }

  -- ---- a job of it
  module _ (tasks : List TaskValue) (are : AreTasksOf (steps_for c) tasks) (k j : ℕ) (at : slice_get u.steps k ≡ Some (step.Job m j)) (job : JobValue) (at_job : slice_get v.jobs j ≡ Some job) (found : AnalysisValue) (at_found : slice_get a.found v.transform ≡ Some found) where
    -- it is a step of the run
    job_step : (call : ℕ) × (slice_get (steps_for c) k ≡ Some (by_job (instance_as w call found v.seats) job))
    job_step = (let s = zip_at_step in by s.0 s.1 s.2)
      where
        zip_at_step : (s : Step) × (slice_get (steps_for c) k ≡ Some s) × IsStep p a.found u.instances (step.Job m j) s
        zip_at_step = at_zip (IsStep p a.found u.instances) u.steps (steps_for c) c.steps k (step.Job m j) at

        by : (s : Step) → slice_get (steps_for c) k ≡ Some s → IsStep p a.found u.instances (step.Job m j) s → (call : ℕ) × (slice_get (steps_for c) k ≡ Some (by_job (instance_as w call found v.seats) job))
        by (by_copy i d) e h = absurd h
        by (by_trap g) e h = absurd h
        by (by_job i job1) e h =
            let same = some_same h.value v (sym h.there ∙ at_v) in
            let transform : i.transform ≡ of_transform w = some_same i.transform (of_transform w) (sym h.is.transform ∙ ap (λ (q : InstanceValue). slice_get p q.transform) same ∙ seen.transform) in
            let analysis : i.found ≡ found = some_same i.found found (sym h.is.analysis ∙ ap (λ (q : InstanceValue). slice_get a.found q.transform) same ∙ at_found) in
            let seats : i.seats ≡ v.seats = h.is.seats ∙ ap (λ (q : InstanceValue). q.seats) same in
            let number : i.number ≡ w.number = h.is.number ∙ ap (λ (q : InstanceValue). q.transform) same ∙ sym seen.number in
            let sizes : i.sizes ≡ of_sizes w = h.is.sizes ∙ ap (λ (q : InstanceValue). sizes_of q.sizes) same ∙ ap sizes_of (sym seen.sizes) in
            let jobs : job1 ≡ job = some_same job1 job (sym h.has ∙ ap (λ (q : InstanceValue). slice_get q.jobs j) same ∙ at_job) in
            let whole : by_job i job1 ≡ by_job (instance_as w i.call found v.seats) job = λ z. by_job (record { call = i.call; number = number z; transform = transform z; found = analysis z; sizes = sizes z; seats = seats z }) (jobs z) in
            (i.call, e ∙ ap Some whole)

    pub layer_there : job.layer < length found.order.layers
    layer_there = let s = job_step in layer_is p a.found c.config c.grain c.depth c.number c.ins c.entered tasks are w s.0 found v.seats standing k job s.1

    -- how much room its rules need can be told
    pub has_needs : IsReady w → HaveNeeds (bare_prog w.program) w.number sizes (job_as found job)
    has_needs ready = (let s = job_step in by s.0 s.1 job.rule refl)
      where
        by : (call : ℕ) → slice_get (steps_for c) k ≡ Some (by_job (instance_as w call found v.seats) job) → (rule : Option ℕ) → job.rule ≡ rule → HaveNeeds (bare_prog w.program) w.number sizes (job_as found job)
        by call e None none =
            subst (λ (o : Option ℕ). All (HasNeed (bare_prog w.program) w.number sizes) (rules_by o (job_as found job).rules)) (sym none)
            (all_contained (HasNeed (bare_prog w.program) w.number sizes) (map (λ (q : FramePart). q.rule) job.parts) (λ n own.
            let part = map_in (λ (q : FramePart). q.rule) job.parts n own in
            let cell = part_is_cell p a.found c.config c.grain c.depth c.number c.ins c.entered tasks are w call found v.seats standing k job e none part.0 part.1 in
            subst (HasNeed (bare_prog w.program) w.number sizes) part.2 (cell_need w ready part.0.rule cell.0 cell.1 cell.2)))
        by call e (Some n) some =
            let task = whole_task p a.found c.config c.grain c.depth c.number c.ins c.entered tasks are w call found v.seats standing k job e n some in
            subst (λ (o : Option ℕ). All (HasNeed (bare_prog w.program) w.number sizes) (rules_by o (job_as found job).rules)) (sym some)
            (All-cons (HasNeed (bare_prog w.program) w.number sizes) n [] (whole_need w ready n (record { rule = task.rule; there = task.there; wide = task.wide; within = task.within })) (All-nil (HasNeed (bare_prog w.program) w.number sizes)))

    module _ (start : Turn) (b : Begins (plan_for c tasks) k start) where
      made_by : (call : ℕ) → slice_get (steps_for c) k ≡ Some (by_job (instance_as w call found v.seats) job) → (rule : Option ℕ) → job.rule ≡ rule → IsMadeBy w rule (job_as found job) start
      made_by call e None none =
          subst (λ (o : Option ℕ). IsBlock w (map (λ (q : FramePart). q.rule) job.parts) (walk_of (steps_by found.order.layers job.layer o) (map (spot_of found.nodes) job.parts)) start) none
          (as_block w (plan_for c tasks) k start b (map (λ (q : FramePart). q.rule) job.parts) (walk_of (steps_by found.order.layers job.layer job.rule) (map (spot_of found.nodes) job.parts))
          (block_task p a.found c.config c.grain c.depth c.number c.ins c.entered tasks are w call found v.seats standing k job e none))
      made_by call e (Some n) some =
          subst (λ (o : Option ℕ). IsWhole w n (walk_of (steps_by found.order.layers job.layer o) (map (spot_of found.nodes) job.parts)) start) some
          (as_whole w (plan_for c tasks) k start b n (walk_of (steps_by found.order.layers job.layer job.rule) (map (spot_of found.nodes) job.parts))
          (whole_task p a.found c.config c.grain c.depth c.number c.ins c.entered tasks are w call found v.seats standing k job e n some))

      pub can_be_made : CanBeMade w (job_as found job) start
      can_be_made = let s = job_step in made_by s.0 s.1 job.rule refl
