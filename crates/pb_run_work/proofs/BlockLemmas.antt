-- The task of a job that makes its cells one by one.
use Rattle.std.proofs.Common.{◌≡◌, ◌∙◌, refl, sym, ap, subst, inl, inr, ℕ, ◌<◌, ℤ, true, false, not, List, length, map, slice_get, Option, Some, None}
use Rattle.std.specs.List.{Contains}
use Rattle.std.proofs.lemmas.Option.{slice_get_within}
use Rattle.std.specs.Prelude.{Result, Ok, Err}
use Rattle.std.specs.Option.{option_map_or}
use Rattle.std.proofs.lemmas.List.{length-map}
use Rattle.pb_values.specs.declared.outcome.Outcome.TheVariants.{Value}
use Rattle.pb_values.specs.declared.outcome.Trap.{Trap}
use Rattle.pb_base.proofs.ListLemmas.{in_at}
use Rattle.pb_program.specs.Configs.{ConfigValue}
use Rattle.pb_program.specs.Trees.{ProgRule, ProgTransform}
use Rattle.pb_program.specs.declared.rule.RuleKind.{RuleKind}
use Rattle.pb_program.specs.declared.rule.RuleKind.TheVariants as kind
use Rattle.pb_region.specs.Boxes.{is_wide}
use Rattle.pb_model.specs.Calls.{Outcomes}
use Rattle.pb_model.specs.Cells.{Cell}
use Rattle.pb_model.specs.Equations.{own_number, own_outcome}
use Rattle.pb_check.specs.Orders.{AnalysisValue}
use Rattle.pb_eval.specs.CanRun.{at_variables}
use Rattle.pb_frame.specs.Frames.{JobValue, is_cell_rule}
use Rattle.pb_frame.specs.declared.part.FramePart.{FramePart}
use Rattle.pb_taskgraph.specs.Graphs.{TaskValue}
use Rattle.pb_taskgraph.specs.Plans.{outcome_at}
use Rattle.pb_plan.proofs.BeforeLemmas.{parts}
use Rattle.pb_plan.proofs.JobLemmas.{at_map, kind_of, part_of, placed}
use Rattle.pb_plan.proofs.LinkedLemmas.{index_is}
use Rattle.pb_solution.specs.Solutions.{stop_cell}
use Rattle.pb_views.specs.declared.seat.Seat.{Seat}
use Rattle.pb_walk.specs.declared.stop.Stop.{Stop}
use Rattle.pb_steps.specs.Handed.{IsEntered}
use Rattle.pb_steps.specs.Handed.{outcome_of}
use Rattle.pb_steps.specs.Handed.{by_job, cells_of, stop_number}
use Rattle.pb_steps.proofs.Handed.{ms, run}
use Rattle.pb_run_graph.specs.Handed.{AreTasksOf, plan_of_run, step_order}
use Rattle.pb_jobs.specs.Instances.{InstanceValue, of_sizes, of_transform}
use Rattle.pb_jobs.specs.Tasks.{IsBlockTask, IsListed}
use Rattle.pb_jobs.proofs.ListLemmas.{some_same}
use Rattle.pb_run_work.proofs.ReadyLemmas.{plan}
use Rattle.pb_run_work.proofs.StopLemmas.{IsStanding, from, inst, instance_as, may_run, outcome_is, part, part_there, rule, rule_there, shown, stops}

cell_kind : (g : RuleKind) → not (is_wide g) ≡ true → g ≡ kind.Cell
cell_kind kind.Cell e = refl
cell_kind kind.Wide e = absurd (cc)
cell_kind kind.Plan e = absurd (cc)

-- a rule for single cells gives a cell the one number, wherever it lies
own_same : (t : ProgTransform) (sizes : List ℕ) (r : ProgRule) → r.kind ≡ kind.Cell → (c d : Cell) (g : Result (List ℤ) Trap) → own_outcome t.matrices sizes c r g ≡ own_outcome t.matrices sizes d r g
own_same t sizes r e c d (Ok numbers) = ap (λ n. Value n) (by r.kind e)
  where
    by : (g : RuleKind) → g ≡ kind.Cell → own_number t.matrices sizes c g r.outs numbers ≡ own_number t.matrices sizes d g r.outs numbers
    by kind.Cell h = refl
    by kind.Wide h = absurd (cc)
    by kind.Plan h = absurd (cc)
own_same t sizes r e c d (Err u) = refl

module _ (p : List ProgTransform) (found : List AnalysisValue) (config : ConfigValue) (grain depth number : ℕ) (ins : List Outcomes) (h : IsEntered p found config number ins) (tasks : List TaskValue) (are : AreTasksOf (run p found config grain depth number ins h).steps tasks)
    (w : InstanceValue) (call : ℕ) (f : AnalysisValue) (seats : List Seat) (stand : IsStanding w seats) (k : ℕ) (job : JobValue) (e : slice_get (run p found config grain depth number ins h).steps k ≡ Some (by_job (instance_as w call f seats) job)) where
  abbrev all_stops : List Stop
  all_stops = stops p found config grain depth number ins h tasks are w call f seats stand k job e

  order_is : (plan p found config grain depth number ins h tasks are).order k ≡ map (stop_number (instance_as w call f seats)) all_stops
  unfolding plan_of_run step_order cells_of
  order_is =
      index_is (map cells_of (run p found config grain depth number ins h).steps) k (cells_of (by_job (instance_as w call f seats) job)) (at_map cells_of (run p found config grain depth number ins h).steps k (by_job (instance_as w call f seats) job) e)

  pub order_long : length ((plan p found config grain depth number ins h tasks are).order k) ≡ length all_stops
  order_long = ap length order_is ∙ length-map all_stops (stop_number (instance_as w call f seats))

  -- its layer is one of the transform
  pub layer_is : job.layer < length f.order.layers
  layer_is =
      let o = from p found config grain depth number ins h tasks are w call f seats stand k job e in
      let i = inst p found config grain depth number ins h tasks are w call f seats stand k job e in
      let some = parts config w.number (of_transform w) f (of_sizes w) o.grain i o.at.valid in
      let at = placed (of_transform w) f.order o.grain some o.place job o.there in
      elim (kind_of (of_transform w) f.order o.grain some o.place job at) [
        | inl wide ↦ subst (λ (b : JobValue). b.layer < length f.order.layers) (sym wide.1.1) (slice_get_within f.order.layers at.layer at.value at.there)
        | inr block ↦ subst (λ (b : JobValue). b.layer < length f.order.layers) (sym block.same) (slice_get_within f.order.layers at.layer at.value at.there)
      ]

  -- the rule of each part makes single cells
  pub part_is_cell : job.rule ≡ None → (part : FramePart) → Contains job.parts part → (r : ProgRule) × (slice_get (of_transform w).rules part.rule ≡ Some r) × (r.kind ≡ kind.Cell)
  part_is_cell none own amid =
      let o = from p found config grain depth number ins h tasks are w call f seats stand k job e in
      let i = inst p found config grain depth number ins h tasks are w call f seats stand k job e in
      let some = parts config w.number (of_transform w) f (of_sizes w) o.grain i o.at.valid in
      let cell : is_cell_rule (of_transform w) own.rule ≡ true = (part_of (of_transform w) f.order o.grain some o.place job (placed (of_transform w) f.order o.grain some o.place job o.there) own amid).cell none in
      by own.rule (slice_get (of_transform w).rules own.rule) refl cell
    where
      by : (n : ℕ) → (z : Option ProgRule) → slice_get (of_transform w).rules n ≡ z → option_map_or (λ (q : ProgRule). not (is_wide q.kind)) z false ≡ true → (r : ProgRule) × (slice_get (of_transform w).rules n ≡ Some r) × (r.kind ≡ kind.Cell)
      by n None e c = absurd (cc)
      by n (Some r) e c = (r, e, cell_kind r.kind c)

  -- a stop's cell is listed with its outcome
  solved : (n : ℕ) → outcome_of (ms p found config grain depth number ins h) n ≡ outcome_at (plan p found config grain depth number ins h tasks are).solution n
  unfolding plan_of_run
  solved n = refl

  module _ (n : ℕ) (s : Stop) (at : slice_get all_stops n ≡ Some s) where
    pub listed : IsListed w (plan p found config grain depth number ins h tasks are) k n s (outcome_of (ms p found config grain depth number ins h) (stop_number (instance_as w call f seats) s))
    listed =
        let own = shown p found config grain depth number ins h tasks are w call f seats stand k job e n s at in
        record {
          view = own.view;
          at = own.at;
          inside = own.inside;
          listed = ap (λ l. slice_get l n) order_is ∙ at_map (stop_number (instance_as w call f seats)) all_stops n s at ∙ ap Some (sym own.cell);
          solved = sym (solved _) ∙ ap (outcome_of (ms p found config grain depth number ins h)) own.cell;
        }

    is_cell : job.rule ≡ None → (rule p found config grain depth number ins h tasks are w call f seats stand k job e n s at).kind ≡ kind.Cell
    is_cell none =
        let own = part p found config grain depth number ins h tasks are w call f seats stand k job e n s at in
        let r = rule p found config grain depth number ins h tasks are w call f seats stand k job e n s at in
        let there = rule_there p found config grain depth number ins h tasks are w call f seats stand k job e n s at in
        let cell = part_is_cell none own (in_at job.parts s.piece own (part_there p found config grain depth number ins h tasks are w call f seats stand k job e n s at)) in
        ap (λ (q : ProgRule). q.kind) (some_same r cell.0 (sym there ∙ cell.1)) ∙ cell.2

  pub block_task : job.rule ≡ None → IsBlockTask w (plan p found config grain depth number ins h tasks are) k (map (λ (q : FramePart). q.rule) job.parts) all_stops
  block_task none = record {
    count = order_long;
    each = λ n s at.
        let own = part p found config grain depth number ins h tasks are w call f seats stand k job e n s at in
        let r = rule p found config grain depth number ins h tasks are w call f seats stand k job e n s at in
        let cell = is_cell n s at none in
        let l = listed n s at in
        record {
          k = own.rule;
          own = at_map (λ (q : FramePart). q.rule) job.parts s.piece own (part_there p found config grain depth number ins h tasks are w call f seats stand k job e n s at);
          rule = r;
          there = rule_there p found config grain depth number ins h tasks are w call f seats stand k job e n s at;
          cell = cell;
          runs = may_run p found config grain depth number ins h tasks are w call f seats stand k job e n s at n (λ z. refl);
          listed = record {
            view = l.view;
            at = l.at;
            inside = l.inside;
            listed = l.listed;
            solved = l.solved ∙ outcome_is p found config grain depth number ins h tasks are w call f seats stand k job e n s at ∙ own_same (of_transform w) (of_sizes w) r cell (stop_cell s) (at_variables s.x s.y) _;
          };
        };
  }
