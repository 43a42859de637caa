-- The matrices of a call and of all calls below it, with their outcomes, in the order in which the calls are met.
use Rattle.std.specs.Prelude.{ℕ, zero, suc, if◌then◌else◌, List, [], ◌∷◌, ◌++◌, map, Option, Some, None, slice_get}
use Rattle.std.specs.List.{flat_map}
use Rattle.std.specs.Option.{option_map_or}
use Rattle.pb_values.specs.declared.outcome.Kind.TheVariants.{BadShape, DepthEnded}
use Rattle.pb_program.specs.Configs.{ConfigValue}
use Rattle.pb_program.specs.Plans.{PlanCallValue}
use Rattle.pb_program.specs.Trees.{ProgRule, ProgTransform}
use Rattle.pb_model.specs.Calls.{Outcomes, outcome_in}
use Rattle.pb_model.specs.Cells.{reads}
use Rattle.pb_model.specs.Grids.{no_grid}
use Rattle.pb_check.specs.Orders.{AnalysisValue}
use Rattle.pb_frame.specs.Frames.{JobValue}
use Rattle.pb_plan.specs.Made.{jobs_for}
use Rattle.pb_recursion.specs.Counts.{is_plan_kind}
use Rattle.pb_recursion.specs.Depths.{Call, call_at, cut_into, made_by_call, sizes_given, targets_filled}
use Rattle.pb_recursion.specs.Plans.{Names, after_call, calls_of_rule, fits_call, named, names_of_reads, no_cell, sides_of_view}

-- what is given to a call, by the transform's number, makes all these matrices: its own, and those of the calls below it
abbrev pub AllMade : Type 0
AllMade = ℕ → List Outcomes → List Outcomes

-- a call one less deep: what it makes, and with the calls below it
pub record Below : Type 0 where
  pub call : Call
  pub all : AllMade

abbrev pub call_below : Option Below → Option Call
call_below None = None
call_below (Some b) = Some b.call

module _ (p : List ProgTransform) (number : ℕ) (t : ProgTransform) (sizes : List ℕ) (rule : ℕ) (r : ProgRule) where
  -- the matrices of a call of a plan, and of all calls below it
  abbrev pub call_matrices : Option Below → PlanCallValue → List Outcomes → List Outcomes
  call_matrices None c given = targets_filled number t sizes rule r DepthEnded c
  call_matrices (Some b) c given = if fits_call t.matrices sizes p r c then b.all c.transform given else targets_filled number t sizes rule r BadShape c

  -- one call after another
  abbrev pub calls_matrices : Option Below → List PlanCallValue → Names Outcomes → List Outcomes
  calls_matrices below [] names = []
  calls_matrices below (c ∷ rest) names =
      call_matrices below c (map (named no_grid names) c.arguments) ++ calls_matrices below rest (after_call no_grid (made_by_call p number t sizes rule r (call_below below)) c names)

-- what the reads of a rule show of the matrices of an instance
abbrev pub read_matrices : ProgTransform → List ℕ → ProgRule → List Outcomes → List Outcomes
read_matrices t sizes r ms = cut_into (map (sides_of_view t.matrices sizes) r.reads) (map (outcome_in ms) (reads t.matrices sizes no_cell r))

module _ (p : List ProgTransform) (number : ℕ) (t : ProgTransform) (sizes : List ℕ) (below : Option Below) (ms : List Outcomes) where
  abbrev pub rule_matrices : ℕ → Option ProgRule → List Outcomes
  rule_matrices rule None = []
  rule_matrices rule (Some r) = if is_plan_kind r.kind then calls_matrices p number t sizes rule r below (calls_of_rule r) (names_of_reads (read_matrices t sizes r ms)) else []

  -- those of the calls of a job, if it is one of a plan
  abbrev pub job_matrices : Option ℕ → List Outcomes
  job_matrices None = []
  job_matrices (Some rule) = rule_matrices rule (slice_get t.rules rule)

  abbrev pub jobs_matrices : List JobValue → List Outcomes
  jobs_matrices jobs = flat_map (λ (job : JobValue). job_matrices job.rule) jobs

module _ (p : List ProgTransform) (found : List AnalysisValue) (config : ConfigValue) (grain : ℕ) where
  abbrev pub matrices_by : ℕ → Option Below → ℕ → List Outcomes → ProgTransform → AnalysisValue → List Outcomes
  matrices_by depth below number ins t a =
      let own = call_at p config depth number ins in
      let sizes = sizes_given t ins in
      own ++ jobs_matrices p number t sizes below (ins ++ own) (jobs_for config number t a sizes grain)

  abbrev pub matrices_one : ℕ → Option Below → AllMade
  matrices_one depth below number ins = option_map_or (λ t. option_map_or (matrices_by depth below number ins t) (slice_get found number) []) (slice_get p number) []

  -- a call whose plans may call so many deeper
  unfoldable pub matrices_at : ℕ → AllMade
  matrices_at zero = matrices_one zero None
  matrices_at (suc d) = matrices_one (suc d) (Some (record { call = call_at p config d; all = matrices_at d }))

  abbrev pub below_at : ℕ → Option Below
  below_at zero = None
  below_at (suc d) = Some (record { call = call_at p config d; all = matrices_at d })

  -- those of a run: its inputs, and its calls
  abbrev pub run_matrices : ℕ → ℕ → List Outcomes → List Outcomes
  run_matrices depth number ins = ins ++ matrices_at depth number ins
