-- A stop of a job of a run: the rule of its cell may be run, and what it gives of the run's outcomes is the cell's outcome.
use Rattle.std.proofs.Common.{◌≡◌, ◌∙◌, refl, sym, ap, subst, ℕ, ◌-◌, ◌<◌, ◌≤◌, ◌^◌, pos, Bool, true, false, List, [], map, slice_get, Some, None, arith}
use Rattle.std.specs.Prelude.{◌≢◌, if◌then◌else◌}
use Rattle.std.specs.List.{All, AllZip, Contains}
use Rattle.std.specs.Option.{option_map_or}
use Rattle.std.proofs.lemmas.Option.{get_or_from_slice_get, slice_get_within}
use Rattle.pb_linear.specs.Numbers.{exact_value}
use Rattle.pb_values.specs.Views.{cell_of}
use Rattle.pb_values.specs.declared.outcome.Outcome.{Outcome}
use Rattle.pb_values.specs.declared.shape.Shape.{Shape}
use Rattle.pb_values.specs.declared.shape.TheConstants.{MOST_SIDE}
use Rattle.pb_values.specs.declared.view.View.{View}
use Rattle.pb_base.proofs.ListLemmas.{in_at}
use Rattle.pb_program.specs.Areas.{area_of}
use Rattle.pb_program.specs.Configs.{ConfigValue}
use Rattle.pb_program.specs.Forms.{DeclValue}
use Rattle.pb_program.specs.Trees.{ProgRule, ProgTransform}
use Rattle.pb_program.specs.declared.rule.RuleKind.{RuleKind}
use Rattle.pb_program.specs.declared.rule.RuleKind.TheVariants as kind
use Rattle.pb_program.specs.declared.view.Read.{Read}
use Rattle.pb_region.specs.Within.{IsWithin}
use Rattle.pb_model.specs.Calls.{Outcomes, cell_equation, cell_reads, made_by, no_outcome}
use Rattle.pb_model.specs.Cells.{Cell, IsCell, reads}
use Rattle.pb_model.specs.Chosen.{chosen_rule}
use Rattle.pb_model.specs.Equations.{own_outcome, rule_gives}
use Rattle.pb_model.specs.Lawful.{IsLawful}
use Rattle.pb_calls.proofs.InsideLemmas.{view_within}
use Rattle.pb_check.specs.Orders.{AnalysisValue}
use Rattle.pb_check.specs.Ranked.{IsMadeCell}
use Rattle.pb_check.proofs.FirstLemmas.{some_same}
use Rattle.pb_eval.specs.CanRun.{at_variables}
use Rattle.pb_frame.specs.Choices.{IsInstance}
use Rattle.pb_frame.specs.Frames.{JobValue}
use Rattle.pb_frame.specs.declared.part.FramePart.{FramePart}
use Rattle.pb_taskgraph.specs.Graphs.{TaskValue}
use Rattle.pb_taskgraph.specs.Plans.{Plan, outcome_at}
use Rattle.pb_taskgraph.specs.Turns.{MayRead}
use Rattle.pb_plan.specs.Made.{IsMadeBy, jobs_for}
use Rattle.pb_plan.proofs.LinkedLemmas.{at_zip}
use Rattle.pb_plan.proofs.MadeLemmas.{chosen, made_rule}
use Rattle.pb_solution.specs.Solutions.{stop_cell, stops_of}
use Rattle.pb_solution.proofs.MayLemmas.{map_same}
use Rattle.pb_views.specs.Seats.{IsSmall, across, cell_at, down, no_seat}
use Rattle.pb_views.specs.Windows.{number_in}
use Rattle.pb_views.specs.declared.seat.Seat.{Seat}
use Rattle.pb_walk.specs.declared.stop.Stop.{Stop}
use Rattle.pb_steps.specs.Handed.{IsEntered}
use Rattle.pb_steps.specs.Handed.{outcome_of}
use Rattle.pb_steps.specs.Handed.{no_plans}
use Rattle.pb_steps.specs.Handed.{Instance, by_job, number_at, stop_number}
use Rattle.pb_steps.proofs.Handed.{IsJobOf}
use Rattle.pb_steps.proofs.Handed.{side_below}
use Rattle.pb_steps.proofs.Handed.{ms, run, run_right}
use Rattle.pb_steps.proofs.Handed.{instance, job_use, of_job, of_made, origin, read_cell}
use Rattle.pb_steps.specs.Stands.{AreViewsOf, IsSeatFor}
use Rattle.pb_run_graph.specs.Handed.{AreTasksOf, plan_of_run}
use Rattle.pb_run_graph.proofs.Handed.{may_read}
use Rattle.pb_jobs.specs.Instances.{InstanceValue, of_sizes, of_transform}
use Rattle.pb_jobs.specs.Tasks.{MayRun, solved_by}
use Rattle.pb_jobs.proofs.ListLemmas.{all_at, some_at}
use Rattle.pb_run_work.proofs.PlacedLemmas.{IsShownAt}
use Rattle.pb_run_work.proofs.ReadyLemmas.{plan}

pub short_sides : (s : Seat) → IsSmall s → (across s ≤ MOST_SIDE) × (down s ≤ MOST_SIDE)
short_sides s small = by s.turned
  where
    by : (b : Bool) → ((if b then s.rect.y1 - s.rect.y0 else s.rect.x1 - s.rect.x0) ≤ MOST_SIDE) × ((if b then s.rect.x1 - s.rect.x0 else s.rect.y1 - s.rect.y0) ≤ MOST_SIDE)
    by true = (omega (arith, small.high), omega (arith, small.right))
    by false = (omega (arith, small.right), omega (arith, small.high))

-- an instance of a run, as jobs see it
abbrev pub instance_as : InstanceValue → ℕ → AnalysisValue → List Seat → Instance
instance_as w call f seats = record { call = call; number = w.number; transform = of_transform w; found = f; sizes = of_sizes w; seats = seats }

-- its matrices stand with their sides, and its views are theirs
pub record IsStanding (w : InstanceValue) (seats : List Seat) : Type 0 where
  pub sides : AllZip (IsSeatFor (of_sizes w)) (of_transform w).matrices seats
  pub small : All IsSmall seats
  pub views : AreViewsOf (of_transform w).matrices seats w.views

module _ (w : InstanceValue) (call : ℕ) (f : AnalysisValue) (seats : List Seat) (stand : IsStanding w seats) where
  abbrev placed : Instance
  placed = instance_as w call f seats

  -- a cell has its place among the views
  pub record IsNumbered (d : Cell) : Type 0 where
    pub view : View
    pub at : slice_get w.views d.matrix ≡ Some view
    pub on_x : d.x < view.shape.w
    pub on_y : d.y < view.shape.h
    pub cell : cell_of view d.x d.y ≡ number_at placed d
    pub short_x : d.x ≤ 2 ^ 23
    pub short_y : d.y ≤ 2 ^ 23

  pub numbered : (d : Cell) → IsCell (of_transform w) (of_sizes w) d → IsNumbered d
  numbered d is =
      let seat = at_zip (IsSeatFor (of_sizes w)) (of_transform w).matrices seats stand.sides d.matrix is.decl is.there in
      let view = some_at w.views d.matrix (omega (arith, stand.views.count, slice_get_within seats d.matrix seat.0 seat.1)) in
      let shows = stand.views.each d.matrix is.decl seat.0 view.0 is.there seat.1 view.1 in
      let on_x : d.x < across seat.0 = omega (arith, seat.2.width, side_below (exact_value is.decl.w (of_sizes w)) d.x is.before_x) in
      let on_y : d.y < down seat.0 = omega (arith, seat.2.height, side_below (exact_value is.decl.h (of_sizes w)) d.y is.before_y) in
      let short = short_sides seat.0 (all_at IsSmall seats d.matrix seat.0 stand.small seat.1) in
      record {
        view = view.0;
        at = view.1;
        on_x = subst (λ (z : Shape). d.x < z.w) (sym shows.shape) on_x;
        on_y = subst (λ (z : Shape). d.y < z.h) (sym shows.shape) on_y;
        cell = shows.cells d.x d.y on_x on_y ∙ ap (λ z. cell_at z d.x d.y) (sym (get_or_from_slice_get seats d.matrix seat.0 no_seat seat.1));
        short_x = omega (arith, on_x, short.0);
        short_y = omega (arith, on_y, short.1);
      }

  pub number_is : (d : Cell) → IsCell (of_transform w) (of_sizes w) d → number_in w.views d ≡ number_at placed d
  number_is d is = let n = numbered d is in ap (λ o. option_map_or (λ (v : View). cell_of v d.x d.y) o 0) n.at ∙ n.cell

module _ (p : List ProgTransform) (found : List AnalysisValue) (config : ConfigValue) (grain depth number : ℕ) (ins : List Outcomes) (h : IsEntered p found config number ins) (tasks : List TaskValue) (are : AreTasksOf (run p found config grain depth number ins h).steps tasks)
    (w : InstanceValue) (call : ℕ) (f : AnalysisValue) (seats : List Seat) (stand : IsStanding w seats) (k : ℕ) (job : JobValue) (e : slice_get (run p found config grain depth number ins h).steps k ≡ Some (by_job (instance_as w call f seats) job)) where
  abbrev i : Instance
  i = instance_as w call f seats

  abbrev t : ProgTransform
  t = of_transform w

  abbrev sizes : List ℕ
  sizes = of_sizes w

  abbrev all : List Outcomes
  all = ms p found config grain depth number ins h

  abbrev the_plan : Plan
  the_plan = plan p found config grain depth number ins h tasks are

  abbrev pub from : IsJobOf config all i job
  from = origin p found config grain depth number ins h k i job e

  abbrev pub inst : IsInstance w.number t f sizes
  inst = instance p found config grain depth number ins h k i job e

  abbrev pub jobs : List JobValue
  jobs = jobs_for config w.number t f sizes from.grain

  abbrev pub stops : List Stop
  stops = stops_of f.nodes f.order.layers job

  module _ (n : ℕ) (s : Stop) (at : slice_get stops n ≡ Some s) where
    abbrev c : Cell
    c = stop_cell s

    pub made : IsMadeBy jobs f.nodes c from.place s.piece
    made = of_job p found config grain depth number ins h k i job e s (in_at stops n s at)

    pub cell : IsMadeCell t sizes c
    cell = of_made p found config grain depth number ins h k i job e s (in_at stops n s at)

    abbrev pub part : FramePart
    part = made.part

    pub part_there : slice_get job.parts s.piece ≡ Some part
    part_there = ap (λ (q : JobValue). slice_get q.parts s.piece) (some_same job made.job (sym from.there ∙ made.is)) ∙ made.has

    chosen_is : chosen_rule config w.number t sizes c ≡ part.rule
    chosen_is = made_rule config w.number t f sizes from.grain inst c from.place s.piece made

    abbrev pub law : IsLawful t sizes c (chosen_rule config w.number t sizes c)
    law = chosen config w.number t f sizes from.grain inst from.at.valid c cell

    abbrev pub rule : ProgRule
    rule = law.rule

    pub rule_there : slice_get t.rules part.rule ≡ Some rule
    rule_there = ap (slice_get t.rules) (sym chosen_is) ∙ law.there

    pub computes : rule.kind ≢ kind.Plan
    computes plan = from.computes s (in_at stops n s at) rule law.there plan

    reads_are : cell_reads config no_plans w.number t sizes c ≡ reads t.matrices sizes (at_variables s.x s.y) rule
    unfolding cell_reads reads
    reads_are = ap (λ o. option_map_or (reads t.matrices sizes c) o []) law.there

    within : (q : ℕ) (r : Read) (d : DeclValue) → slice_get rule.reads q ≡ Some r → slice_get t.matrices r.matrix ≡ Some d → IsWithin (area_of sizes (pos s.x) (pos s.y) r d) (exact_value d.w sizes) (exact_value d.h sizes)
    within q r d at_q decl = view_within inst.program w.number t sizes inst.well_formed inst.sound inst.there part.rule rule rule_there q r d at_q decl inst.in_range (pos s.x) (pos s.y) law.can.applies

    pub read_number : (d : Cell) → Contains (reads t.matrices sizes (at_variables s.x s.y) rule) d → number_in w.views d ≡ number_at i d
    read_number d reading =
        number_is w call f seats stand d (read_cell p found config grain depth number ins h k i job e n s at d (subst (λ (xs : List Cell). Contains xs d) (sym reads_are) reading))

    pub may : (done : ℕ) → (job.rule ≡ None → done ≡ n) → (d : Cell) → Contains (reads t.matrices sizes (at_variables s.x s.y) rule) d → MayRead the_plan k done (number_in w.views d)
    may done when d reading =
        subst (MayRead the_plan k done) (sym (read_number d reading))
        (may_read p found config grain depth number ins h tasks are k done (number_at i d) (job_use p found config grain depth number ins h k i job e n s at d (subst (λ (xs : List Cell). Contains xs d) (sym reads_are) reading) done when))

    pub may_run : (done : ℕ) → (job.rule ≡ None → done ≡ n) → MayRun w the_plan k done rule s.x s.y
    may_run done when = let own = numbered w call f seats stand c cell.cell in record { reads = record { small_x = own.short_x; small_y = own.short_y; within = within }; may = may done when }

    pub shown : IsShownAt i w.views s
    shown = let own = numbered w call f seats stand c cell.cell in record { view = own.view; at = own.at; inside = (own.on_x, own.on_y); cell = own.cell }

    -- ---- its outcome
    by_kind : (g : RuleKind) → rule.kind ≡ g → (seen : List Outcome) → made_by config no_plans w.number t sizes g rule c seen ≡ own_outcome t.matrices sizes c rule (rule_gives t.matrices sizes c w.number (chosen_rule config w.number t sizes c) rule seen)
    by_kind kind.Cell g seen = refl
    by_kind kind.Wide g seen = refl
    by_kind kind.Plan g seen = absurd (computes g)

    equation_is : (seen : List Outcome) → cell_equation config no_plans w.number t sizes c seen ≡ own_outcome t.matrices sizes c rule (rule_gives t.matrices sizes c w.number (chosen_rule config w.number t sizes c) rule seen)
    unfolding cell_equation
    equation_is seen = ap (λ o. option_map_or (λ (r : ProgRule). made_by config no_plans w.number t sizes r.kind r c seen) o no_outcome) law.there ∙ by_kind rule.kind refl seen

    gives_same : (x : ℕ) (seen : List Outcome) → rule_gives t.matrices sizes c w.number x rule seen ≡ rule_gives t.matrices sizes (at_variables s.x s.y) w.number x rule seen
    unfolding rule_gives
    gives_same x seen = refl

    solved_at : (d : Cell) → Contains (reads t.matrices sizes (at_variables s.x s.y) rule) d → outcome_of all (number_at i d) ≡ outcome_at the_plan.solution (number_in w.views d)
    unfolding plan_of_run
    solved_at d reading = ap (outcome_of all) (sym (read_number d reading))

    seen_is : map (λ d. outcome_of all (number_at i d)) (cell_reads config no_plans w.number t sizes c) ≡ map (λ d. outcome_at the_plan.solution (number_in w.views d)) (reads t.matrices sizes (at_variables s.x s.y) rule)
    seen_is =
        ap (map (λ d. outcome_of all (number_at i d))) reads_are
        ∙ map_same (λ d. outcome_of all (number_at i d)) (λ d. outcome_at the_plan.solution (number_in w.views d)) (reads t.matrices sizes (at_variables s.x s.y) rule) solved_at

    pub outcome_is : outcome_of all (stop_number i s) ≡ own_outcome t.matrices sizes c rule (solved_by w the_plan part.rule rule s.x s.y)
    outcome_is =
        run_right p found config grain depth number ins h k (by_job i job) e s (in_at stops n s at)
        ∙ equation_is (map (λ d. outcome_of all (number_at i d)) (cell_reads config no_plans w.number t sizes c))
        ∙ ap (own_outcome t.matrices sizes c rule)
        (gives_same (chosen_rule config w.number t sizes c) (map (λ d. outcome_of all (number_at i d)) (cell_reads config no_plans w.number t sizes c))
        ∙ (λ z. rule_gives t.matrices sizes (at_variables s.x s.y) w.number (chosen_is z) rule (seen_is z)))
