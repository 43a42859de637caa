-- A run, unrolled: the steps of a call and of all calls below it, and where its matrices stand.
use Rattle.std.specs.Prelude.{ℕ, zero, suc, ◌+◌, Bool, ◌&&◌, ◌==◌, false, if◌then◌else◌, List, [], ◌∷◌, ◌++◌, map, drop, filter, Option, Some, None, slice_get, slice_index_or}
use Rattle.std.specs.List.{zip}
use Rattle.std.specs.Option.{option_map_or}
use Rattle.pb_values.specs.declared.outcome.Kind.TheVariants.{BadShape, DepthEnded}
use Rattle.pb_values.specs.declared.outcome.Outcome.{Outcome}
use Rattle.pb_program.specs.declared.plan.Slot.{Slot}
use Rattle.pb_program.specs.declared.plan.Slot.TheVariants as slot
use Rattle.pb_program.specs.declared.view.Read.{Read}
use Rattle.pb_program.specs.Configs.{ConfigValue}
use Rattle.pb_program.specs.Forms.{DeclValue}
use Rattle.pb_program.specs.Plans.{PlanCallValue}
use Rattle.pb_program.specs.Trees.{ProgRule, ProgTransform}
use Rattle.pb_model.specs.Cells.{natural}
use Rattle.pb_model.specs.Equations.{shown_area}
use Rattle.pb_check.specs.Orders.{AnalysisValue}
use Rattle.pb_values.specs.declared.rect.Rect.{Rect}
use Rattle.pb_frame.specs.Frames.{JobValue, cut_by, has_place, within}
use Rattle.pb_frame.specs.declared.part.FramePart.{FramePart}
use Rattle.pb_plan.specs.Boxes.{rect_from, spot_of}
use Rattle.pb_plan.specs.Made.{jobs_for}
use Rattle.pb_recursion.specs.Counts.{is_plan_kind}
use Rattle.pb_recursion.specs.Depths.{trapped_by}
use Rattle.pb_recursion.specs.Plans.{Names, calls_of_rule, fits_call, locals_of_rule, named, names_of_reads, no_cell, target_sides}
use Rattle.pb_recursion.specs.Shapes.{Sides, area, sides_of_decl, sizes_from}
use Rattle.pb_views.specs.declared.seat.Seat.{Seat}
use Rattle.pb_views.specs.Seats.{no_seat, part_seat, sides_of_seat}
use Rattle.pb_runs.specs.Steps.{Instance, Step, Target, by_copy, by_job, by_trap, seat_in}

-- how many calls, matrices and cells are met
pub record Met : Type 0 where
  pub calls : ℕ
  pub matrices : ℕ
  pub cells : ℕ

-- ---- matrices with cells of their own, one after the other
abbrev pub whole_seat : Met → Sides → Seat
whole_seat n s = record {
  base = n.matrices;
  first = n.cells;
  row = natural s.0;
  rect = record { x0 = 0; y0 = 0; x1 = natural s.0; y1 = natural s.1 };
  turned = false;
}

abbrev pub after_matrix : Met → Sides → Met
after_matrix n s = record { calls = n.calls; matrices = n.matrices + 1; cells = n.cells + area s }

abbrev pub seats_from : Met → List Sides → List Seat
seats_from n [] = []
seats_from n (s ∷ rest) = whole_seat n s ∷ seats_from (after_matrix n s) rest

abbrev pub after_matrices : Met → List Sides → Met
after_matrices n [] = n
after_matrices n (s ∷ rest) = after_matrices (after_matrix n s) rest

-- the call that is met next has this number
abbrev pub after_call : Met → Met
after_call n = record { calls = n.calls + 1; matrices = n.matrices; cells = n.cells }

-- ---- calls
-- where the matrices of a call after `through` and `to` stand, its steps with those of the calls below it, and what is met after it
pub record Unrolled : Type 0 where
  pub seats : List Seat
  pub steps : List Step
  pub next : Met

-- a call of a transform, by its number, where what is given stands, and what is met before it
abbrev pub Unroll : Type 0
Unroll = ℕ → List Seat → Met → Unrolled

abbrev pub seat_has_cells : Seat → Bool
seat_has_cells s = has_place s.rect

-- the step of a call that can't be made, unless it has no cell
abbrev pub trap_step : List Target → ℕ → ℕ → Outcome → List Seat → List Step
trap_step targets first call o [] = []
trap_step targets first call o (s ∷ rest) = by_trap (record { call = call; outcome = o; targets = targets; first = first; seats = s ∷ rest }) ∷ []

-- such a call: a matrix for each target
abbrev pub failed : List Target → Outcome → List Sides → Met → Unrolled
failed targets o wanted n = record {
  seats = seats_from (after_call n) wanted;
  steps = trap_step targets n.matrices n.calls o (filter seat_has_cells (seats_from (after_call n) wanted));
  next = after_matrices (after_call n) wanted;
}

-- ---- plans
-- the names of a plan after some of its calls, their steps, and what is met after them
pub record Played : Type 0 where
  pub names : Names Seat
  pub steps : List Step
  pub next : Met

-- what a call of a plan is unrolled to
abbrev pub Player : Type 0
Player = PlanCallValue → List Seat → Met → Unrolled

abbrev pub played : Player → List PlanCallValue → Names Seat → Met → Played
played make [] names n = record { names = names; steps = []; next = n }
played make (c ∷ rest) names n =
    let u = make c (map (named no_seat names) c.arguments) n in
    let later = played make rest (zip c.targets u.seats ++ names) u.next in
    record { names = later.names; steps = u.steps ++ later.steps; next = later.next }

-- the matrices after `to` of a call
abbrev pub given_back : List ProgTransform → PlanCallValue → Unrolled → Unrolled
given_back p c u = record { seats = drop (option_map_or (λ (t : ProgTransform). t.middles) (slice_get p c.transform) 0) u.seats; steps = u.steps; next = u.next }

-- what a name of a plan is called, and how many dimensions it has
abbrev pub no_target : Target
no_target = record { name = record { bytes = []; at = 0 }; dims = 0 }

abbrev pub target_of : ProgRule → Slot → Target
target_of r (slot.Out k) = record { name = slice_index_or r.names k no_target.name; dims = option_map_or (λ (o : Read). o.dims) (slice_get r.outs k) 0 }
target_of r (slot.Local k) = option_map_or (λ (d : DeclValue). record { name = d.name; dims = d.dims }) (slice_get (locals_of_rule r) k) no_target
target_of r (slot.Read k) = no_target

abbrev pub targets_of : ProgRule → PlanCallValue → List Target
targets_of r c = map (target_of r) c.targets

module _ (p : List ProgTransform) (i : Instance) (rule : ℕ) (r : ProgRule) where
  -- at depth 0 no call can be made; else one that doesn't fit; else it is one less deep
  abbrev pub unrolled_by : Option Unroll → Player
  unrolled_by None c given n = failed (targets_of r c) (trapped_by i.number i.transform i.sizes rule r DepthEnded) (target_sides i.transform.matrices i.sizes r c) n
  unrolled_by (Some deeper) c given n =
      if fits_call i.transform.matrices i.sizes p r c
      then given_back p c (deeper c.transform given n)
      else failed (targets_of r c) (trapped_by i.number i.transform i.sizes rule r BadShape) (target_sides i.transform.matrices i.sizes r c) n

-- where what a view shows stands
abbrev pub view_seat : Instance → Read → Seat
view_seat i v = part_seat v.view (seat_in i v.matrix) (rect_from (shown_area i.transform.matrices i.sizes no_cell v))

abbrev pub plan_played : List ProgTransform → Instance → ℕ → ProgRule → Option Unroll → Met → Played
plan_played p i rule r deeper n = played (unrolled_by p i rule r deeper) (calls_of_rule r) (names_of_reads (map (view_seat i) r.reads)) n

-- ---- copies
-- where an output lies
abbrev pub output_rect : Instance → Read → Rect
output_rect i o = rect_from (shown_area i.transform.matrices i.sizes no_cell o)

-- a part has a place of it
abbrev pub is_part_of : Instance → Read → FramePart → Bool
is_part_of i o part = ((spot_of i.found.nodes part).base == o.matrix) && has_place (cut_by (output_rect i o) part.rect)

-- of the parts of a job, what they have of an output, from the matrix that the plan made for it
abbrev pub copy_step : Instance → JobValue → Seat → ℕ × ℕ → List FramePart → List Step
copy_step i job source corner [] = []
copy_step i job source corner (part ∷ rest) = by_copy i (record { layer = job.layer; rule = job.rule; parts = part ∷ rest; corner = corner; source = source }) ∷ []

abbrev pub output_parts : Instance → JobValue → Read → List FramePart
output_parts i job o = map (within (output_rect i o)) (filter (is_part_of i o) job.parts)

-- output by output, from this number on
abbrev pub copies_of : Instance → JobValue → Names Seat → ℕ → List Read → List Step
copies_of i job names k [] = []
copies_of i job names k (o ∷ rest) =
    copy_step i job (named no_seat names (slot.Out k)) ((output_rect i o).x0, (output_rect i o).y0) (output_parts i job o) ++ copies_of i job names (k + 1) rest

-- ---- jobs
-- some steps, and what is met after them
pub record Done : Type 0 where
  pub steps : List Step
  pub next : Met

module _ (p : List ProgTransform) (deeper : Option Unroll) (i : Instance) where
  abbrev pub plan_done : JobValue → ℕ → ProgRule → Met → Done
  plan_done job rule r n =
      let plan = plan_played p i rule r deeper n in
      record { steps = plan.steps ++ copies_of i job plan.names 0 r.outs; next = plan.next }

  -- a job of a plan: its calls, then its copies; any other is a step
  abbrev pub rule_done : JobValue → ℕ → Option ProgRule → Met → Done
  rule_done job rule None n = record { steps = by_job i job ∷ []; next = n }
  rule_done job rule (Some r) n = if is_plan_kind r.kind then plan_done job rule r n else record { steps = by_job i job ∷ []; next = n }

  abbrev pub job_done : Option ℕ → JobValue → Met → Done
  job_done None job n = record { steps = by_job i job ∷ []; next = n }
  job_done (Some rule) job n = rule_done job rule (slice_get i.transform.rules rule) n

  -- one after another
  abbrev pub jobs_done : List JobValue → Met → Done
  jobs_done [] n = record { steps = []; next = n }
  jobs_done (job ∷ rest) n =
      let here = job_done job.rule job n in
      let later = jobs_done rest here.next in
      record { steps = here.steps ++ later.steps; next = later.next }

-- before a run
abbrev pub nothing_met : Met
nothing_met = record { calls = 0; matrices = 0; cells = 0 }

-- ---- instances
abbrev pub no_unrolled : Met → Unrolled
no_unrolled n = record { seats = []; steps = []; next = n }

-- its own matrices stand after all that is met
abbrev pub own_sides : ProgTransform → List ℕ → List Sides
own_sides t sizes = map (sides_of_decl sizes) (drop t.inputs t.matrices)

abbrev pub instance_of : ℕ → ProgTransform → AnalysisValue → List ℕ → List Seat → Met → Instance
instance_of number t a sizes given n = record {
  call = n.calls;
  number = number;
  transform = t;
  found = a;
  sizes = sizes;
  seats = given ++ seats_from (after_call n) (own_sides t sizes);
}

module _ (p : List ProgTransform) (found : List AnalysisValue) (config : ConfigValue) (grain : ℕ) where
  abbrev pub unrolled_at : Option Unroll → ℕ → ProgTransform → AnalysisValue → List ℕ → List Seat → Met → Unrolled
  unrolled_at deeper number t a sizes given n =
      let jobs = jobs_done p deeper (instance_of number t a sizes given n) (jobs_for config number t a sizes grain) (after_matrices (after_call n) (own_sides t sizes)) in
      record { seats = seats_from (after_call n) (own_sides t sizes); steps = jobs.steps; next = jobs.next }

  abbrev pub unrolled_of : Option Unroll → ℕ → List Seat → Met → ProgTransform → AnalysisValue → Unrolled
  unrolled_of deeper number given n t a = unrolled_at deeper number t a (sizes_from t (map sides_of_seat given)) given n

  abbrev pub found_for : Option Unroll → ℕ → List Seat → Met → ProgTransform → Unrolled
  found_for deeper number given n t = option_map_or (unrolled_of deeper number given n t) (slice_get found number) (no_unrolled n)

  abbrev pub unroll_one : Option Unroll → Unroll
  unroll_one deeper number given n = option_map_or (found_for deeper number given n) (slice_get p number) (no_unrolled n)

  -- a call whose plans may call so many deeper
  unfoldable pub unroll : ℕ → Unroll
  unroll zero = unroll_one None
  unroll (suc d) = unroll_one (Some (unroll d))

  abbrev pub deeper_unroll : ℕ → Option Unroll
  deeper_unroll zero = None
  deeper_unroll (suc d) = Some (unroll d)

  -- ---- a run
  -- its inputs stand first, and then its first call
  abbrev pub unrolled_run : ℕ → ℕ → List Sides → Unrolled
  unrolled_run depth number inputs = unroll depth number (seats_from nothing_met inputs) (after_matrices nothing_met inputs)
