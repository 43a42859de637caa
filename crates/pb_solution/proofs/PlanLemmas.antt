-- A run of an instance is a plan.
use Rattle.std.proofs.Common.{◌≡◌, sym, subst, ℕ, ◌<◌, List, length, slice_get, Some, arith}
use Rattle.std.specs.List.{Contains}
use Rattle.pb_values.specs.declared.view.View.{View}
use Rattle.pb_program.specs.Configs.{ConfigValue}
use Rattle.pb_program.specs.Trees.{ProgTransform}
use Rattle.pb_program.specs.WellFormed.{IsTransform}
use Rattle.pb_region.proofs.SmallLemmas.{at_place}
use Rattle.pb_model.specs.Calls.{Outcomes, Plans}
use Rattle.pb_check.specs.Orders.{AnalysisValue}
use Rattle.pb_check.proofs.FirstLemmas.{some_at}
use Rattle.pb_frame.specs.Choices.{IsInstance}
use Rattle.pb_frame.specs.Frames.{JobValue}
use Rattle.pb_taskgraph.specs.Graphs.{EachOnce, TaskValue}
use Rattle.pb_taskgraph.specs.Plans.{IsPlan}
use Rattle.pb_plan.specs.Made.{jobs_for}
use Rattle.pb_plan.proofs.GraphLemmas.{is_graph}
use Rattle.pb_plan.proofs.OnceLemmas.{once_each}
use Rattle.pb_solution.specs.Solutions.{IsRun, all_matrices, job_order, plan_of}
use Rattle.pb_solution.proofs.OrderLemmas.{listed_own, order_at, own_listed, own_once}
use Rattle.pb_solution.proofs.OutcomeLemmas.{count_is, sides_are}
use Rattle.pb_solution.proofs.SmallLemmas.{all_small}

module _ (config : ConfigValue) (plans : Plans) (number : ℕ) (t : ProgTransform) (a : AnalysisValue) (sizes : List ℕ) (grain : ℕ) (ins : List Outcomes) (views : List View) (tasks : List TaskValue) (run : IsRun config plans number t a sizes grain ins views tasks) where
  abbrev i : IsInstance number t a sizes
  i = run.instance

  abbrev jobs : List JobValue
  jobs = jobs_for config number t a sizes grain

  fits : IsTransform (length i.program) t
  fits = at_place (IsTransform (length i.program)) i.program number t i.well_formed.transforms i.there

  job_there : (j : ℕ) → j < length tasks → (job : JobValue) × (slice_get jobs j ≡ Some job)
  job_there j below = some_at jobs j (omega (arith, below, run.are_tasks.count))

  pub is_plan : IsPlan (plan_of config plans number t a sizes grain ins views tasks)
  unfolding plan_of
  is_plan = record {
    graph = is_graph config number t a sizes grain i run.valid views run.row tasks run.are_tasks run.within;
    size = count_is sizes t.matrices (all_matrices config plans number t sizes ins) (sides_are config plans number t sizes ins run.given (omega (arith, fits.parts)));
    small = all_small config plans number t a sizes grain ins views tasks run;
    listed = λ j n below.
        let job = job_there j below in
        let same = order_at a views jobs j job.0 job.1 in (
          λ h. own_listed config number t a sizes grain i run.valid views run.row j job.0 job.1 tasks run.are_tasks n (subst (λ (xs : List ℕ). Contains xs n) same h),
          λ h. subst (λ (xs : List ℕ). Contains xs n) (sym same) (listed_own config number t a sizes grain i run.valid views run.row j job.0 job.1 tasks run.are_tasks n h),
        );
    once = λ j below.
        let job = job_there j below in
        subst EachOnce (sym (order_at a views jobs j job.0 job.1)) (once_each (job_order a.nodes a.order.layers views job.0) (own_once config number t a sizes grain i run.valid views run.row j job.0 job.1));
  }
