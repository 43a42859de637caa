-- The task of a job that makes all its cells at once.
use Rattle.std.proofs.Common.{◌≡◌, ◌∙◌, refl, sym, ap, subst, ◌≢◌, ℕ, pos, true, false, List, length, map, slice_get, Some, None, arith}
use Rattle.std.specs.List.{Contains}
use Rattle.std.specs.Option.{option_map_or}
use Rattle.pb_base.proofs.ListLemmas.{at_in, in_at}
use Rattle.pb_graph.specs.Nodes.{NodeValue}
use Rattle.pb_program.specs.Conditions.{Applies}
use Rattle.pb_program.specs.Configs.{ConfigValue}
use Rattle.pb_program.specs.Trees.{ProgRule, ProgTransform}
use Rattle.pb_program.specs.WellFormed.{IsRule, IsTransform}
use Rattle.pb_program.specs.declared.rule.RuleKind.{RuleKind}
use Rattle.pb_program.specs.declared.rule.RuleKind.TheVariants as kind
use Rattle.pb_region.specs.Boxes.{is_wide}
use Rattle.pb_region.proofs.SmallLemmas.{at_place}
use Rattle.pb_model.specs.Calls.{Outcomes}
use Rattle.pb_model.specs.Cells.{Cell, reads}
use Rattle.pb_model.specs.Equations.{own_outcome, rule_gives}
use Rattle.pb_calls.proofs.InsideLemmas.{output_within, view_within}
use Rattle.pb_check.specs.Orders.{AnalysisValue}
use Rattle.pb_check.proofs.FirstLemmas.{some_same}
use Rattle.pb_eval.specs.CanRun.{at_variables}
use Rattle.pb_eval.proofs.RegionLemmas.{gives_same, reads_same}
use Rattle.pb_frame.specs.Choices.{IsInstance}
use Rattle.pb_frame.specs.Frames.{JobValue, is_wide_rule}
use Rattle.pb_frame.specs.declared.part.FramePart.{FramePart}
use Rattle.pb_taskgraph.specs.Graphs.{TaskValue}
use Rattle.pb_taskgraph.specs.Plans.{Plan, outcome_at}
use Rattle.pb_plan.specs.Made.{IsMadeBy, jobs_for}
use Rattle.pb_plan.proofs.BeforeLemmas.{first_part, home, node_of, parts, some_places}
use Rattle.pb_plan.proofs.JobLemmas.{part_of, placed}
use Rattle.pb_plan.proofs.PieceLemmas.{IsPiece}
use Rattle.pb_plan.proofs.WideLemmas.{applies_same}
use Rattle.pb_solution.specs.Solutions.{stop_cell}
use Rattle.pb_solution.proofs.OrderLemmas.{made_stop}
use Rattle.pb_views.specs.Windows.{number_in}
use Rattle.pb_views.specs.declared.seat.Seat.{Seat}
use Rattle.pb_walk.specs.declared.stop.Stop.{Stop}
use Rattle.pb_steps.specs.Handed.{IsEntered}
use Rattle.pb_steps.specs.Handed.{by_job}
use Rattle.pb_steps.proofs.Handed.{IsJobOf}
use Rattle.pb_steps.proofs.Handed.{ms, run}
use Rattle.pb_run_graph.specs.Handed.{AreTasksOf}
use Rattle.pb_jobs.specs.Instances.{InstanceValue, of_sizes, of_transform}
use Rattle.pb_jobs.specs.Tasks.{IsWholeTask, solved_by}
use Rattle.pb_run_work.proofs.BlockLemmas.{listed, order_long}
use Rattle.pb_run_work.proofs.ReadyLemmas.{plan}
use Rattle.pb_run_work.proofs.StopLemmas.{IsStanding, computes, from as origin_of, inst as instance_of, instance_as, law, may, outcome_is, part, part_there, rule, rule_there, stops}

wide_kind : (g : RuleKind) → is_wide g ≡ true → g ≢ kind.Plan → g ≡ kind.Wide
wide_kind kind.Cell e plain = absurd (cc)
wide_kind kind.Wide e plain = refl
wide_kind kind.Plan e plain = absurd (plain refl)

module _ (p : List ProgTransform) (found : List AnalysisValue) (config : ConfigValue) (grain depth number : ℕ) (ins : List Outcomes) (h : IsEntered p found config number ins) (tasks : List TaskValue) (are : AreTasksOf (run p found config grain depth number ins h).steps tasks)
    (w : InstanceValue) (call : ℕ) (f : AnalysisValue) (seats : List Seat) (stand : IsStanding w seats) (k : ℕ) (job : JobValue) (e : slice_get (run p found config grain depth number ins h).steps k ≡ Some (by_job (instance_as w call f seats) job)) (m : ℕ) (some : job.rule ≡ Some m) where
  abbrev t : ProgTransform
  t = of_transform w

  abbrev sizes : List ℕ
  sizes = of_sizes w

  abbrev the_plan : Plan
  the_plan = plan p found config grain depth number ins h tasks are

  abbrev origin : IsJobOf config (ms p found config grain depth number ins h) (instance_as w call f seats) job
  origin = origin_of p found config grain depth number ins h tasks are w call f seats stand k job e

  abbrev inst : IsInstance w.number t f sizes
  inst = instance_of p found config grain depth number ins h tasks are w call f seats stand k job e

  abbrev jobs : List JobValue
  jobs = jobs_for config w.number t f sizes origin.grain

  abbrev all : List FramePart
  all = parts config w.number t f sizes origin.grain inst origin.at.valid

  abbrev all_stops : List Stop
  all_stops = stops p found config grain depth number ins h tasks are w call f seats stand k job e

  abbrev none_free : Cell
  none_free = at_variables 0 0

  when : (q : ℕ) → job.rule ≡ None → 0 ≡ q
  when q none = absurd (let both : Some m ≡ None = sym some ∙ none in cc)

  -- ---- the rule of each stop is the task's
  module _ (n : ℕ) (s : Stop) (at : slice_get all_stops n ≡ Some s) where
    abbrev own_part : FramePart
    own_part = part p found config grain depth number ins h tasks are w call f seats stand k job e n s at

    abbrev own_rule : ProgRule
    own_rule = rule p found config grain depth number ins h tasks are w call f seats stand k job e n s at

    both : (own_part.rule ≡ m) × (is_wide_rule t m ≡ true)
    both = (part_of t f.order origin.grain all origin.place job (placed t f.order origin.grain all origin.place job origin.there) own_part (in_at job.parts s.piece own_part (part_there p found config grain depth number ins h tasks are w call f seats stand k job e n s at))).wide m some

    rule_at : slice_get t.rules m ≡ Some own_rule
    rule_at = ap (slice_get t.rules) (sym both.0) ∙ rule_there p found config grain depth number ins h tasks are w call f seats stand k job e n s at

  -- ---- a first stop
  first : (q : FramePart) × Contains job.parts q
  first = first_part config w.number t f sizes origin.grain inst origin.at.valid origin.place job origin.there m some

  amid : IsPiece all first.0
  amid = home config w.number t f sizes origin.grain inst origin.at.valid origin.place job origin.there first.0 first.1

  node : NodeValue
  node = (node_of config w.number t f sizes origin.grain inst origin.at.valid first.0 amid).0

  corner : Cell
  corner = record { matrix = node.matrix; x = first.0.rect.x0; y = first.0.rect.y0 }

  corner_made : IsMadeBy jobs f.nodes corner origin.place (at_in job.parts first.0 first.1).0
  unfolding node corner
  corner_made =
      let places = some_places config w.number t f sizes origin.grain inst origin.at.valid first.0 amid in
      record {
        job = job;
        is = origin.there;
        part = first.0;
        has = (at_in job.parts first.0 first.1).1;
        holds = record { node = node; there = (node_of config w.number t f sizes origin.grain inst origin.at.valid first.0 amid).1; matrix = refl; place = record { left = omega arith; right = omega (arith, places.0); low = omega arith; high = omega (arith, places.1) } };
      }

  s0 : Stop
  s0 = record { piece = (at_in job.parts first.0 first.1).0; base = corner.matrix; x = corner.x; y = corner.y }

  found0 : (q : ℕ) × (slice_get all_stops q ≡ Some s0)
  unfolding s0
  found0 = at_in all_stops s0 (made_stop config w.number t f sizes origin.grain inst origin.at.valid origin.place job origin.there corner (at_in job.parts first.0 first.1).0 corner_made)

  abbrev rule0 : ProgRule
  rule0 = own_rule found0.0 s0 found0.1

  there0 : slice_get t.rules m ≡ Some rule0
  there0 = rule_at found0.0 s0 found0.1

  is_wide0 : is_wide rule0.kind ≡ true
  is_wide0 = sym (ap (λ o. option_map_or (λ (r : ProgRule). is_wide r.kind) o false) there0) ∙ (both found0.0 s0 found0.1).1

  kind0 : rule0.kind ≡ kind.Wide
  kind0 = wide_kind rule0.kind is_wide0 (computes p found config grain depth number ins h tasks are w call f seats stand k job e found0.0 s0 found0.1)

  applies0 : Applies t.matrices rule0 sizes (pos 0) (pos 0)
  applies0 = applies_same inst.program w.number t inst.well_formed inst.sound inst.there m rule0 there0 is_wide0 sizes (pos s0.x) (pos s0.y) (pos 0) (pos 0)
      (law p found config grain depth number ins h tasks are w call f seats stand k job e found0.0 s0 found0.1).can.applies

  fits0 : IsRule (length t.sizes) t.inputs (length t.matrices) (length inst.program) rule0
  fits0 = at_place (IsRule (length t.sizes) t.inputs (length t.matrices) (length inst.program)) t.rules m rule0 (at_place (IsTransform (length inst.program)) inst.program w.number t inst.well_formed.transforms inst.there).rules there0

  reads_free : (c d : Cell) → reads t.matrices sizes c rule0 ≡ reads t.matrices sizes d rule0
  reads_free c d = reads_same t.matrices sizes c d (length t.sizes) t.inputs (length t.matrices) (length inst.program) rule0 fits0 kind0

  solved_free : (x y : ℕ) → solved_by w the_plan m rule0 x y ≡ solved_by w the_plan m rule0 0 0
  solved_free x y =
      gives_same t.matrices sizes (at_variables x y) none_free (length t.sizes) t.inputs (length t.matrices) (length inst.program) rule0 fits0 kind0 w.number m (map (λ d. outcome_at the_plan.solution (number_in w.views d)) (reads t.matrices sizes (at_variables x y) rule0))
      ∙ ap (λ (l : List Cell). rule_gives t.matrices sizes none_free w.number m rule0 (map (λ d. outcome_at the_plan.solution (number_in w.views d)) l)) (reads_free (at_variables x y) none_free)

  same_rule : (n : ℕ) (s : Stop) (at : slice_get all_stops n ≡ Some s) → own_rule n s at ≡ rule0
  same_rule n s at = some_same (own_rule n s at) rule0 (sym (rule_at n s at) ∙ there0)

  value_is : (n : ℕ) (s : Stop) (at : slice_get all_stops n ≡ Some s) → own_outcome t.matrices sizes (stop_cell s) (own_rule n s at) (solved_by w the_plan (own_part n s at).rule (own_rule n s at) s.x s.y) ≡ own_outcome t.matrices sizes (stop_cell s) rule0 (solved_by w the_plan m rule0 0 0)
  value_is n s at =
      ap (λ q. own_outcome t.matrices sizes (stop_cell s) (own_rule n s at) (solved_by w the_plan q (own_rule n s at) s.x s.y)) (both n s at).0
      ∙ ap (λ (r : ProgRule). own_outcome t.matrices sizes (stop_cell s) r (solved_by w the_plan m r s.x s.y)) (same_rule n s at)
      ∙ ap (own_outcome t.matrices sizes (stop_cell s) rule0) (solved_free s.x s.y)

  pub whole_task : IsWholeTask w the_plan k m all_stops
  whole_task = record {
    rule = rule0;
    there = there0;
    wide = kind0;
    runs = record {
      reads = record {
        small_x = omega arith;
        small_y = omega arith;
        within = λ q r d at decl. view_within inst.program w.number t sizes inst.well_formed inst.sound inst.there m rule0 there0 q r d at decl inst.in_range (pos 0) (pos 0) applies0;
      };
      may = λ d reading. may p found config grain depth number ins h tasks are w call f seats stand k job e found0.0 s0 found0.1 0 (when found0.0) d (subst (λ (l : List Cell). Contains l d) (reads_free none_free (at_variables s0.x s0.y)) reading);
    };
    within = λ q out d at decl. output_within inst.program w.number t sizes inst.well_formed inst.sound inst.there m rule0 there0 q out d at decl inst.in_range (pos 0) (pos 0) applies0;
    count = order_long p found config grain depth number ins h tasks are w call f seats stand k job e;
    each = λ n s at.
        let l = listed p found config grain depth number ins h tasks are w call f seats stand k job e n s at in
        record { view = l.view; at = l.at; inside = l.inside; listed = l.listed; solved = l.solved ∙ outcome_is p found config grain depth number ins h tasks are w call f seats stand k job e n s at ∙ value_is n s at };
  }
