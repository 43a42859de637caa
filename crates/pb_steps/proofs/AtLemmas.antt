-- What stands at a place of a run that is unrolled: an instance, its job, and the job's plan.
use Rattle.std.proofs.Common.{◌≡◌, ◌∙◌, refl, sym, ap, subst, ℕ, zero, suc, ◌-◌, ◌<◌, ◌≤◌, ◌^◌, Bool, true, false, List, [], ◌∷◌, ◌++◌, get_or, length, map, slice_get, Option, Some, None, arith}
use Rattle.std.specs.Prelude.{if◌then◌else◌, is_none}
use Rattle.std.specs.List.{All}
use Rattle.std.specs.Option.{option_map, option_map_or}
use Rattle.std.proofs.lemmas.List.{length-map}
use Rattle.pb_linear.specs.Sizes.{sizes_of}
use Rattle.pb_linear.specs.declared.sizes.Sizes.{Sizes}
use Rattle.pb_linear.specs.declared.sizes.TheConstants.{SIZE_TOP}
use Rattle.pb_values.specs.declared.outcome.Kind.{Kind}
use Rattle.pb_values.specs.declared.outcome.Kind.TheVariants.{BadShape, DepthEnded}
use Rattle.pb_values.specs.declared.outcome.Trap.{Trap}
use Rattle.pb_values.specs.declared.outcome.Outcome.TheVariants.{Trapped}
use Rattle.pb_links.specs.declared.places.Spot.{Spot}
use Rattle.pb_model.specs.Equations.{trap_of}
use Rattle.pb_program.specs.Configs.{ConfigValue, IsValid}
use Rattle.pb_program.specs.Forms.{DeclValue}
use Rattle.pb_program.specs.Plans.{PlanCallValue}
use Rattle.pb_program.specs.Rules.{RuleValue}
use Rattle.pb_program.specs.Transforms.{TransformValue}
use Rattle.pb_program.specs.Trees.{ProgRule, ProgTransform, bare_prog, bare_rule, bare_transform}
use Rattle.pb_program.specs.declared.rule.RuleKind.TheVariants as kind
use Rattle.pb_program.specs.declared.view.Read.{Read}
use Rattle.pb_check.specs.Accepting.{AcceptedValue, IsAccepted}
use Rattle.pb_check.specs.Orders.{AnalysisValue}
use Rattle.pb_check.proofs.FirstLemmas.{all_at, some_same}
use Rattle.pb_frame.specs.Frames.{JobValue}
use Rattle.pb_plan.specs.Boxes.{HasNodes, whole_box}
use Rattle.pb_plan.proofs.JobLemmas.{at_map}
use Rattle.pb_counts.specs.Entered.{sizes_of_call}
use Rattle.pb_recursion.specs.Plans.{Names, argument_sides, calls_of_rule, fits_call, names_of_reads, no_cell, target_sides}
use Rattle.pb_recursion.specs.Depths.{trapped_by}
use Rattle.pb_recursion.specs.Shapes.{fits, sizes_from}
use Rattle.pb_views.specs.declared.seat.Seat.{Seat}
use Rattle.pb_counts.specs.Handed.{Instance, by_job}
use Rattle.pb_counts.specs.Handed.{Met, Unroll, Unrolled, copies_of, deeper_unroll, failed, given_back, job_done, plan_done, played, targets_of, unroll, unrolled_by, view_seat}
use Rattle.pb_steps.specs.Runs.{UnrolledValue}
use Rattle.pb_steps.specs.Rules.{IsOf, IsPlanAt, IsPlanRule, IsStepAlone}
use Rattle.pb_steps.specs.Stands.{Appends, AreSeated, Goes, GoesBy, GoesByCall, GoesByPlay, IsInstance, IsJobAt, IsSeated, IsShowing, met_of, shown_seat}
use Rattle.pb_steps.specs.Values.{InstanceValue}
use Rattle.pb_steps.specs.declared.met.Met.{Met as MetValue}
use Rattle.pb_steps.specs.declared.step.Step.{Step as StepValue}
use Rattle.pb_steps.specs.declared.step.Step.TheVariants as step
use Rattle.pb_steps.proofs.CallLemmas.{instance_for, stands}
use Rattle.pb_steps.proofs.EnterLemmas.{there}
use Rattle.pb_steps.proofs.GrowLemmas.{appends_one, goes_both, grows_by, job_keeps}
use Rattle.pb_steps.proofs.ListLemmas.{at_below, item_at, same_at}
use Rattle.pb_steps.proofs.PlanLemmas.{few_outs, few_reads, nodes_of, shows_outs, shows_reads, top}

-- a job of a plan is the plan's calls and copies
plan_is : (p : List ProgTransform) (deeper : Option Unroll) (i : Instance) (j : JobValue) (k : ℕ) (r : ProgRule) (n : Met) → j.rule ≡ Some k → slice_get i.transform.rules k ≡ Some r → r.kind ≡ kind.Plan → job_done p deeper i j.rule j n ≡ plan_done p deeper i j k r n
plan_is p deeper i j k r n of there is = rw (of, there, is) refl

module _ (a : AcceptedValue) (accepted : IsAccepted a) (config : ConfigValue) (valid : IsValid (bare_prog a.program) config) (grain : ℕ) where
  abbrev p : List ProgTransform
  p = bare_prog a.program

  module _ (old : UnrolledValue) (seated : AreSeated a config grain old.instances) (k : ℕ) (value : InstanceValue) (at : slice_get old.instances k ≡ Some value) where
    pub is_seated : IsSeated p a.found config grain value
    is_seated = all_at (IsSeated p a.found config grain) old.instances k value seated at

    pub at_job : (j : ℕ) (job : JobValue) → slice_get value.jobs j ≡ Some job → IsJobAt p a.found old.instances k j (instance_for p a.found config grain value is_seated) job
    at_job j job has = record { value = value; there = at; is = stands p a.found config grain value is_seated; has = has }

    -- the transform that is looked up
    module _ (number : ℕ) (is_number : number ≡ value.transform) (xs : List TransformValue) (held : xs ≡ a.program.transforms) (x : TransformValue) (x_at : x ≡ get_or xs number x) where
      pub transform_is : slice_get p value.transform ≡ Some (bare_transform x)
      transform_is = let below = at_below p value.transform is_seated.transform is_seated.there in subst (λ n. slice_get p n ≡ Some (bare_transform x)) is_number (there a accepted number (omega (arith, below, is_number)) xs held x x_at)

      -- by an instance that it stands for
      pub instance_is : (i : Instance) → IsInstance p a.found value i → i.transform ≡ bare_transform x
      instance_is i is = some_same i.transform (bare_transform x) (sym is.transform ∙ transform_is)

  -- ---- a job
  module _ (old : UnrolledValue) (k j : ℕ) (value : InstanceValue) (at : slice_get old.instances k ≡ Some value) (job : JobValue) (has : slice_get value.jobs j ≡ Some job) where
    job_same : (i : Instance) (q : JobValue) (h : IsJobAt p a.found old.instances k j i q) → (h.value ≡ value) × (q ≡ job)
    job_same i q h =
        let v = some_same h.value value (sym h.there ∙ at) in
        (v, some_same q job (sym h.has ∙ subst (λ (w : InstanceValue). slice_get w.jobs j ≡ Some job) (sym v) has))

    -- a step as it is
    pub step_goes : (x : TransformValue) → slice_get p value.transform ≡ Some (bare_transform x) → (rule : Option ℕ) → job.rule ≡ rule → IsStepAlone x rule → (deeper : Option Unroll) (new : List StepValue) → new ≡ old.steps ++ step.Job k j ∷ []
        → (i : Instance) (q : JobValue) → IsJobAt p a.found old.instances k j i q → GoesBy a config grain old (record { instances = old.instances; steps = new; met = old.met }) (job_done p deeper i q.rule q (met_of old.met))
    step_goes x is_x rule of alone deeper new added i q h =
        let same = job_same i q h in
        let transform : i.transform ≡ bare_transform x = some_same i.transform (bare_transform x) (sym h.is.transform ∙ subst (λ (w : InstanceValue). slice_get p w.transform ≡ Some (bare_transform x)) (sym same.0) is_x) in
        let rule_is : q.rule ≡ rule = ap (λ (z : JobValue). z.rule) same.1 ∙ of in
        let done : job_done p deeper i q.rule q (met_of old.met) ≡ record { steps = by_job i q ∷ []; next = met_of old.met } = ap (λ o. job_done p deeper i o q (met_of old.met)) rule_is ∙ alone p deeper i q (met_of old.met) transform in
        subst (GoesBy a config grain old (record { instances = old.instances; steps = new; met = old.met })) (sym done) (record {
          grows = grows_by p a.found old.instances old.steps new old.met old.met (by_job i q ∷ []) (subst (λ l. Appends p a.found old.instances old.steps l (by_job i q ∷ [])) (sym added) (appends_one p a.found old.instances old.steps (step.Job k j) (by_job i q) h));
          met = refl;
        })

    -- a plan
    pub plan_goes : (x : TransformValue) → slice_get p value.transform ≡ Some (bare_transform x) → (rule : ℕ) → job.rule ≡ Some rule → IsPlanRule x rule → (deeper : Option Unroll) (new : UnrolledValue)
        → ((i : Instance) (q : JobValue) (r : ProgRule) → IsJobAt p a.found old.instances k j i q → slice_get i.transform.rules rule ≡ Some r → GoesBy a config grain old new (plan_done p deeper i q rule r (met_of old.met)))
        → (i : Instance) (q : JobValue) → IsJobAt p a.found old.instances k j i q → GoesBy a config grain old new (job_done p deeper i q.rule q (met_of old.met))
    plan_goes x is_x rule of is_plan deeper new goes i q h =
        let same = job_same i q h in
        let transform : i.transform ≡ bare_transform x = some_same i.transform (bare_transform x) (sym h.is.transform ∙ subst (λ (w : InstanceValue). slice_get p w.transform ≡ Some (bare_transform x)) (sym same.0) is_x) in
        let there : slice_get i.transform.rules rule ≡ Some (bare_rule is_plan.rule) = ap (λ (t : ProgTransform). slice_get t.rules rule) transform ∙ at_map bare_rule x.rules rule is_plan.rule is_plan.there in
        let rule_is : q.rule ≡ Some rule = ap (λ (z : JobValue). z.rule) same.1 ∙ of in
        subst (GoesBy a config grain old new) (sym (plan_is p deeper i q rule (bare_rule is_plan.rule) (met_of old.met) rule_is there is_plan.is)) (goes i q (bare_rule is_plan.rule) h there)

  -- ---- a plan that is unrolled
  module _ (old : UnrolledValue) (seated : AreSeated a config grain old.instances) (k j rule : ℕ) (plan : IsPlanAt p old.instances k j rule) (x : TransformValue) (is_x : slice_get p plan.value.transform ≡ Some (bare_transform x)) (rs : List RuleValue) (rules : rs ≡ x.rules) (r : RuleValue) (r_at : r ≡ get_or rs rule r) where
    abbrev v : InstanceValue
    v = plan.value

    pub h : IsSeated p a.found config grain v
    h = is_seated old seated k v plan.there

    abbrev sizes : List ℕ
    sizes = sizes_of v.sizes

    same_x : bare_transform x ≡ bare_transform plan.transform
    same_x = some_same (bare_transform x) (bare_transform plan.transform) (sym is_x ∙ plan.is_transform)

    there_rule : slice_get x.rules rule ≡ Some r
    there_rule =
        let lengths : length x.rules ≡ length plan.transform.rules = sym (length-map x.rules bare_rule) ∙ ap (λ (t : ProgTransform). length t.rules) same_x ∙ length-map plan.transform.rules bare_rule in
        let below = at_below plan.transform.rules rule plan.is.rule plan.is.there in
        subst (λ l. slice_get l rule ≡ Some r) rules (item_at rs rule r (omega (arith, below, lengths, ap length rules)) r_at)

    bare_is : slice_get (bare_transform x).rules rule ≡ Some (bare_rule r)
    bare_is = at_map bare_rule x.rules rule r there_rule

    pub is_plan_rule : r.kind ≡ kind.Plan
    is_plan_rule =
        let same : bare_rule r ≡ bare_rule plan.is.rule = some_same (bare_rule r) (bare_rule plan.is.rule) (sym bare_is ∙ ap (λ (t : ProgTransform). slice_get t.rules rule) same_x ∙ at_map bare_rule plan.transform.rules rule plan.is.rule plan.is.there) in
        ap (λ (q : ProgRule). q.kind) same ∙ plan.is.is

    pub reads_shown : IsShowing x.matrices v r.reads
    reads_shown = shows_reads a accepted config valid grain v h x is_x j plan.job plan.at rule plan.of r there_rule

    pub outs_shown : IsShowing x.matrices v r.outs
    outs_shown = shows_outs a accepted config valid grain v h x is_x j plan.job plan.at rule plan.of r there_rule

    pub some_reads : length r.reads < 2 ^ 32
    some_reads = let few = few_reads a accepted config valid grain v h x is_x j plan.job plan.at rule plan.of r there_rule in omega (arith, few)

    pub some_outs : length r.outs < 2 ^ 32
    some_outs = let few = few_outs a accepted config valid grain v h x is_x j plan.job plan.at rule plan.of r there_rule in omega (arith, few)

    pub sizes_top : All (λ size. size ≤ SIZE_TOP) v.sizes.of
    sizes_top = top a accepted config valid grain v h x is_x j plan.job plan.at rule plan.of r there_rule

    pub analysis_below : v.transform < length a.found
    analysis_below = at_below a.found v.transform h.analysis h.is_found

    -- the segments of the transform's analysis
    pub has_nodes : (found : List AnalysisValue) → found ≡ a.found → (b : AnalysisValue) → b ≡ get_or found v.transform b → HasNodes b.nodes plan.job.parts
    has_nodes found same b b_at = subst (λ (z : AnalysisValue). HasNodes z.nodes plan.job.parts) (sym (same_at found a.found same v.transform h.analysis b h.is_found b_at)) (nodes_of a accepted config valid grain v h j plan.job plan.at)

    module _ (outs : List Spot) (where_outs : outs ≡ map (whole_box x.matrices sizes) r.outs) where
      -- an instance that the instance stands for
      pub is_of : (i : Instance) → IsInstance p a.found v i → IsOf v.transform x v.sizes r outs i
      is_of i is = record { of_number = is.number; transform = some_same i.transform (bare_transform x) (sym is.transform ∙ is_x); sizes = is.sizes; where_outs = where_outs }

      pub own_of : IsOf v.transform x v.sizes r outs (instance_for p a.found config grain v h)
      own_of = is_of (instance_for p a.found config grain v h) (stands p a.found config grain v h)

      -- its calls, and then its copies
      module _ (depth : ℕ) (mid : UnrolledValue) (reads : List Seat) (reads_are : reads ≡ map (shown_seat x.matrices sizes v.seats) r.reads) where
        abbrev deeper : Option Unroll
        deeper = deeper_unroll p a.found config grain depth

        pub kept : ((i : Instance) → IsOf v.transform x v.sizes r outs i → GoesByPlay a config grain old mid (played (unrolled_by p i rule (bare_rule r) deeper) (calls_of_rule (bare_rule r)) (names_of_reads reads) (met_of old.met))) → slice_get mid.instances k ≡ Some v
        kept goes = (goes (instance_for p a.found config grain v h) own_of).grows.keeps k v plan.there

        pub plan_done_goes : ((i : Instance) → IsOf v.transform x v.sizes r outs i → GoesByPlay a config grain old mid (played (unrolled_by p i rule (bare_rule r) deeper) (calls_of_rule (bare_rule r)) (names_of_reads reads) (met_of old.met)))
            → (names : Names Seat) → ((i : Instance) → IsOf v.transform x v.sizes r outs i → names ≡ (played (unrolled_by p i rule (bare_rule r) deeper) (calls_of_rule (bare_rule r)) (names_of_reads reads) (met_of old.met)).names)
            → (b : AnalysisValue) → slice_get a.found v.transform ≡ Some b → (steps : List StepValue)
            → ((i : Instance) (q : JobValue) (views : List Read) → IsJobAt p a.found mid.instances k j i q → i.found.nodes ≡ b.nodes → q.parts ≡ plan.job.parts → outs ≡ map (whole_box i.transform.matrices i.sizes) views → Appends p a.found mid.instances mid.steps steps (copies_of i q names 0 views))
            → (i : Instance) (q : JobValue) (s : ProgRule) → IsJobAt p a.found old.instances k j i q → slice_get i.transform.rules rule ≡ Some s
            → GoesBy a config grain old (record { instances = mid.instances; steps = steps; met = mid.met }) (plan_done p deeper i q rule s (met_of old.met))
        plan_done_goes goes names names_are b is_b steps copies i q s at there =
            let value : at.value ≡ v = some_same at.value v (sym at.there ∙ plan.there) in
            let is : IsInstance p a.found v i = subst (λ (w : InstanceValue). IsInstance p a.found w i) value at.is in
            let of = is_of i is in
            let job : q ≡ plan.job = some_same q plan.job (sym at.has ∙ subst (λ (w : InstanceValue). slice_get w.jobs j ≡ Some plan.job) (sym value) plan.at) in
            let s_is : s ≡ bare_rule r = some_same s (bare_rule r) (sym there ∙ ap (λ (t : ProgTransform). slice_get t.rules rule) of.transform ∙ bare_is) in
            let shown : reads ≡ map (view_seat i) r.reads = reads_are ∙ (λ m. map (λ (z : Read). shown_seat (sym of.transform m).matrices (sym of.sizes m) (sym is.seats m) z) r.reads) in
            let play = λ (l : List Seat). played (unrolled_by p i rule (bare_rule r) deeper) (calls_of_rule (bare_rule r)) (names_of_reads l) (met_of old.met) in
            let nodes : i.found.nodes ≡ b.nodes = ap (λ (z : AnalysisValue). z.nodes) (some_same i.found b (sym is.analysis ∙ is_b)) in
            let boxes : outs ≡ map (whole_box i.transform.matrices i.sizes) r.outs = where_outs ∙ (λ m. map (whole_box (sym of.transform m).matrices (sym of.sizes m)) r.outs) in
            let first = goes i of in
            let copied = copies i q r.outs (job_keeps p a.found old.instances mid.instances (λ n w e. first.grows.keeps n w e) k j i q at) nodes (ap (λ (z : JobValue). z.parts) job) boxes in
            let last : GoesBy a config grain mid (record { instances = mid.instances; steps = steps; met = mid.met }) (record { steps = copies_of i q names 0 r.outs; next = met_of mid.met }) = record { grows = grows_by p a.found mid.instances mid.steps steps mid.met mid.met (copies_of i q names 0 r.outs) copied; met = refl } in
            let all = goes_both a config grain old mid (record { instances = mid.instances; steps = steps; met = mid.met }) (play reads).steps (copies_of i q names 0 r.outs) (play reads).next (met_of mid.met) first last in
            subst (λ (z : ProgRule). GoesBy a config grain old (record { instances = mid.instances; steps = steps; met = mid.met }) (plan_done p deeper i q rule z (met_of old.met))) (sym s_is)
            (subst (λ (l : List Seat). GoesBy a config grain old (record { instances = mid.instances; steps = steps; met = mid.met }) (record { steps = (play l).steps ++ copies_of i q (play l).names 0 r.outs; next = (play l).next })) shown
            (subst (λ (z : Names Seat). GoesBy a config grain old (record { instances = mid.instances; steps = steps; met = mid.met }) (record { steps = (play reads).steps ++ copies_of i q z 0 r.outs; next = (play reads).next })) (names_are i of)
            (subst (λ z. Goes a config grain old (record { instances = mid.instances; steps = steps; met = mid.met }) ((play reads).steps ++ copies_of i q names 0 r.outs) z) first.met all)))

-- ---- a call of a plan
-- whether it fits
pub unfit : (ms : List DeclValue) (sizes : List ℕ) (p : List ProgTransform) (r : ProgRule) (c : PlanCallValue) (o : Option Sizes) → option_map sizes_of o ≡ sizes_of_call ms sizes p r c → is_none o ≡ true → fits_call ms sizes p r c ≡ false
unfit ms sizes p r c (Some s) e none = absurd (let wrong : false ≡ true = none in cc)
unfit ms sizes p r c None e none = by (slice_get p c.transform) refl e
  where
    by : (q : Option ProgTransform) → slice_get p c.transform ≡ q → None ≡ sizes_of_call ms sizes p r c → fits_call ms sizes p r c ≡ false
    by None there e = rw there refl
    by (Some t) there e = test (fits_call ms sizes p r c) refl
      where
        test : (b : Bool) → fits_call ms sizes p r c ≡ b → fits_call ms sizes p r c ≡ false
        test false is = is
        test true is = absurd (none_some (sizes_from t (argument_sides ms sizes r c)) (e ∙ (λ m. if is m then option_map (λ t. sizes_from t (argument_sides ms sizes r c)) (there m) else None)))
          where
            none_some : (x : List ℕ) → None ≡ Some x → ⊥
            none_some x h = cc

pub does_fit : (ms : List DeclValue) (sizes : List ℕ) (p : List ProgTransform) (r : ProgRule) (c : PlanCallValue) (o : Option Sizes) → option_map sizes_of o ≡ sizes_of_call ms sizes p r c → is_none o ≡ false → fits_call ms sizes p r c ≡ true
does_fit ms sizes p r c None e some = absurd (let wrong : true ≡ false = some in cc)
does_fit ms sizes p r c (Some s) e some = test (fits_call ms sizes p r c) refl
  where
    test : (b : Bool) → fits_call ms sizes p r c ≡ b → fits_call ms sizes p r c ≡ true
    test true is = is
    test false is = absurd (some_none (sizes_of s) (e ∙ (λ m. if is m then option_map (λ t. sizes_from t (argument_sides ms sizes r c)) (slice_get p c.transform) else None)))
      where
        some_none : (x : List ℕ) → Some x ≡ None → ⊥
        some_none x h = cc

pub fits_below : (ms : List DeclValue) (sizes : List ℕ) (p : List ProgTransform) (r : ProgRule) (c : PlanCallValue) → fits_call ms sizes p r c ≡ true → (t : ProgTransform) × (slice_get p c.transform ≡ Some t)
fits_below ms sizes p r c fit = by (slice_get p c.transform) refl fit
  where
    by : (q : Option ProgTransform) → slice_get p c.transform ≡ q → option_map_or (λ t. fits t (argument_sides ms sizes r c) (target_sides ms sizes r c)) q false ≡ true → (t : ProgTransform) × (slice_get p c.transform ≡ Some t)
    by None there h = absurd (let wrong : false ≡ true = h in cc)
    by (Some t) there h = (t, there)

module _ (a : AcceptedValue) (config : ConfigValue) (grain depth : ℕ) (number : ℕ) (x : TransformValue) (s : Sizes) (r : RuleValue) (outs : List Spot) (k : ℕ) (c : PlanCallValue) (given : List Seat) (old : UnrolledValue) where
  abbrev pr : List ProgTransform
  pr = bare_prog a.program

  abbrev rule : ProgRule
  rule = bare_rule r

  abbrev player : Instance → Unrolled
  player i = unrolled_by pr i k rule (deeper_unroll pr a.found config grain depth) c given (met_of old.met)

  -- at depth 0 the trap is that the depth has ended, else that the shapes are bad
  abbrev fails_by : Trap → Unrolled
  fails_by trap = failed (targets_of rule c) (Trapped trap) (target_sides x.matrices (sizes_of s) rule c) (met_of old.met)

  ended : (i : Instance) → IsOf number x s r outs i → depth ≡ 0 → player i ≡ failed (targets_of rule c) (trapped_by i.number i.transform i.sizes k rule DepthEnded) (target_sides i.transform.matrices i.sizes rule c) (met_of old.met)
  ended i of e = rw e refl

  bad : (i : Instance) (d : ℕ) → depth ≡ suc d → fits_call i.transform.matrices i.sizes pr rule c ≡ false → player i ≡ failed (targets_of rule c) (trapped_by i.number i.transform i.sizes k rule BadShape) (target_sides i.transform.matrices i.sizes rule c) (met_of old.met)
  bad i d e unfit = rw (e, unfit) refl

  same_failed : (i : Instance) → IsOf number x s r outs i → (why : Kind) (trap : Trap) → trap ≡ trap_of x.matrices (sizes_of s) no_cell number k rule why
      → failed (targets_of rule c) (trapped_by i.number i.transform i.sizes k rule why) (target_sides i.transform.matrices i.sizes rule c) (met_of old.met) ≡ fails_by trap
  same_failed i of why trap is =
      (λ m. failed (targets_of rule c) (trapped_by (of.of_number m) (of.transform m) (of.sizes m) k rule why) (target_sides (of.transform m).matrices (of.sizes m) rule c) (met_of old.met)) ∙ ap fails_by (sym is)

  fail_goes : (i : Instance) (trap : Trap) → player i ≡ fails_by trap → (steps : List StepValue) (m : MetValue) → Appends pr a.found old.instances old.steps steps (fails_by trap).steps → met_of m ≡ (fails_by trap).next
      → GoesByCall a config grain old (record { instances = old.instances; steps = steps; met = m }) (player i)
  fail_goes i trap same steps m adds met = subst (GoesByCall a config grain old (record { instances = old.instances; steps = steps; met = m })) (sym same) (record { grows = grows_by pr a.found old.instances old.steps steps old.met m (fails_by trap).steps adds; met = met })

  pub ended_goes : (i : Instance) → IsOf number x s r outs i → depth ≡ 0 → (trap : Trap) → trap ≡ trap_of x.matrices (sizes_of s) no_cell number k rule DepthEnded → (steps : List StepValue) (m : MetValue)
      → Appends pr a.found old.instances old.steps steps (fails_by trap).steps → met_of m ≡ (fails_by trap).next → GoesByCall a config grain old (record { instances = old.instances; steps = steps; met = m }) (player i)
  ended_goes i of e trap is steps m adds met = fail_goes i trap (ended i of e ∙ same_failed i of DepthEnded trap is) steps m adds met

  pub bad_goes : (i : Instance) → IsOf number x s r outs i → 1 ≤ depth → fits_call x.matrices (sizes_of s) pr rule c ≡ false → (trap : Trap) → trap ≡ trap_of x.matrices (sizes_of s) no_cell number k rule BadShape → (steps : List StepValue) (m : MetValue)
      → Appends pr a.found old.instances old.steps steps (fails_by trap).steps → met_of m ≡ (fails_by trap).next → GoesByCall a config grain old (record { instances = old.instances; steps = steps; met = m }) (player i)
  bad_goes i of some unfit trap is steps m adds met = fail_goes i trap (by depth refl ∙ same_failed i of BadShape trap is) steps m adds met
    where
      here : fits_call i.transform.matrices i.sizes pr rule c ≡ false
      here = subst (λ (t : ProgTransform). fits_call t.matrices i.sizes pr rule c ≡ false) (sym of.transform) (subst (λ z. fits_call x.matrices z pr rule c ≡ false) (sym of.sizes) unfit)

      by : (n : ℕ) → depth ≡ n → player i ≡ failed (targets_of rule c) (trapped_by i.number i.transform i.sizes k rule BadShape) (target_sides i.transform.matrices i.sizes rule c) (met_of old.met)
      by zero e = absurd (omega (arith, some, e))
      by (suc d) e = bad i d e here

  -- a call that fits gives back what its call has after `to`
  pub fit_is : (i : Instance) → IsOf number x s r outs i → 1 ≤ depth → fits_call x.matrices (sizes_of s) pr rule c ≡ true → player i ≡ given_back pr c (unroll pr a.found config grain (depth - 1) c.transform given (met_of old.met))
  fit_is i of some fit = by depth refl
    where
      here : fits_call i.transform.matrices i.sizes pr rule c ≡ true
      here = subst (λ (t : ProgTransform). fits_call t.matrices i.sizes pr rule c ≡ true) (sym of.transform) (subst (λ z. fits_call x.matrices z pr rule c ≡ true) (sym of.sizes) fit)

      by : (n : ℕ) → depth ≡ n → player i ≡ given_back pr c (unroll pr a.found config grain (depth - 1) c.transform given (met_of old.met))
      by zero e = absurd (omega (arith, some, e))
      by (suc d) e = let less : suc d - 1 ≡ d = omega arith in rw (e, here, less) refl
