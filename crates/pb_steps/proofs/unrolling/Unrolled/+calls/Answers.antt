use Rattle.std.proofs.Common.{◌≡◌, ◌∙◌, sym, ap, subst, ◌-◌, ◌<◌, ◌≤◌, List, [], ◌∷◌, ◌++◌, drop, get_or, length, map, not, slice_get, Some, arith}
use Rattle.std.specs.List.{All, zip}
use Rattle.std.specs.Option.{option_map, option_map_or}
use Rattle.std.proofs.lemmas.List.Elements.{All-same}
use Rattle.pb_counts.specs.Entered.{sizes_of_call}
use Rattle.std.proofs.lemmas.List.{length-map}
use Rattle.pb_linear.specs.Sizes.{sizes_of}
use Rattle.pb_linear.specs.declared.sizes.Sizes.{Sizes}
use Rattle.pb_linear.specs.declared.sizes.TheConstants.{SIZE_TOP}
use Rattle.pb_frame.specs.Frames.{JobValue}
use Rattle.pb_frame.proofs.FoundLemmas.{if_ok}
use Rattle.pb_graph.specs.Nodes.{NodeValue}
use Rattle.pb_plan.specs.Boxes.{HasNodes, whole_box}
use Rattle.pb_plan.proofs.LinkedLemmas.{some_at}
use Rattle.pb_check.proofs.FirstLemmas.{all_at}
use Rattle.pb_program.specs.Plans.{PlanCallValue}
use Rattle.pb_program.specs.Rules.{RuleValue}
use Rattle.pb_program.specs.Transforms.{ProgValue, TransformValue}
use Rattle.pb_program.specs.Trees.{ProgTransform, bare_prog, bare_rule, bare_transform}
use Rattle.pb_recursion.specs.Plans.{Names, calls_of_rule, named, names_of_reads}
use Rattle.pb_views.specs.Seats.{IsSmall, no_seat}
use Rattle.pb_views.specs.declared.seat.Seat.{Seat}
use Rattle.pb_counts.specs.Handed.{Instance}
use Rattle.pb_counts.specs.Handed.{Unrolled, copies_of, deeper_unroll, job_done, jobs_done, plan_done, played, unroll, unrolled_by}
use Rattle.pb_steps.specs.Rules.{HasJob, IsOf, IsPlanAt}
use Rattle.pb_steps.specs.Runs.{UnrolledValue}
use Rattle.pb_steps.specs.Stands.{Appends, AreSeated, GoesBy, GoesByCall, GoesByPlay, IsInstance, IsSeated, IsShowing, met_of, shown_seat}
use Rattle.pb_steps.specs.Values.{InstanceValue}
use Rattle.pb_steps.specs.declared.step.Step.TheVariants as step
use Rattle.pb_steps.proofs.AtLemmas.{analysis_below, bad_goes, does_fit, ended_goes, fit_is, fits_below, has_nodes, is_plan_rule, kept, outs_shown, plan_done_goes, plan_goes, reads_shown, sizes_top, some_outs, some_reads, step_goes, transform_is, unfit}
use Rattle.pb_steps.proofs.CallLemmas.{call_goes, call_seats, entered_instance, instance_for, job_goes, next_goes, next_names, stands}
use Rattle.pb_steps.proofs.EnterLemmas.{there as transform_there}
use Rattle.pb_steps.proofs.ListLemmas.{at_below, item_at, ok_always, ok_then, ok_two, same_at, take_end}
use Rattle.pb_steps.proofs.unrolling.Unrolled.+calls.Goals as goal

-- ---- a call
pub call-returns-clause-seats : goal.call-returns-clause-seats
call-returns-clause-seats m c = call_seats c.args.a.now c.args.c.now c.args.grain c.args.depth c.args.t c.args.given.items c.args.self.now c.enter.new.self c.jobs.new.self c.in_ok-number.number c.in_ok-number.own.items c.in_ok-number.ensures.entered

pub call-returns-clause-goes : goal.call-returns-clause-goes
call-returns-clause-goes m c =
    let h = c.in_ok-number.ensures.entered in
    call_goes c.args.a.now c.args.c.now c.args.grain c.args.depth c.args.t c.args.given.items c.args.self.now c.enter.new.self c.jobs.new.self c.in_ok-number.number c.in_ok-number.own.items c.in_ok-number.ensures.entered (c.in_ok-jobs.ensures.goes h.value (entered_instance c.args.a.now c.args.c.now c.args.grain c.args.depth c.args.t c.args.given.items c.args.self.now c.enter.new.self c.jobs.new.self c.in_ok-number.number c.in_ok-number.own.items c.in_ok-number.ensures.entered) h.at h.is)

-- ---- a job
pub job-plan-requires : goal.job-plan-requires
job-plan-requires m c =
    let here : c.index-here.result.now ≡ c.requires.there.value = same_at c.self.inside.instances.items c.args.self.now.instances (ap (λ (u : UnrolledValue). u.instances) c.self.view_is) c.args.instance c.requires.there.value c.index-here.result.now c.requires.there.there c.index-here.ensures in
    let number : c.here.inside.transform ≡ c.requires.there.value.transform = ap (λ (v : InstanceValue). v.transform) (c.here.view_is ∙ here) in
    let jobs : c.here.inside.jobs.items ≡ c.requires.there.value.jobs = ap (λ (v : InstanceValue). v.jobs) (c.here.view_is ∙ here) in
    let has : slice_get c.requires.there.value.jobs c.args.job ≡ Some c.index.result.now = subst (λ l. slice_get l c.args.job ≡ Some c.index.result.now) jobs (item_at c.here.inside.jobs.items c.args.job c.index.result.now (omega (arith, c.requires.there.below, ap length jobs)) c.index.ensures) in
    let is_x = transform_is c.args.a.now c.prog.ensures.accepted c.args.c.now c.requires.valid c.args.grain c.args.self.now c.requires.seated c.args.instance c.requires.there.value c.requires.there.there c.here.inside.transform number c.behind-a.inside.transforms.items (ap (λ (p : ProgValue). p.transforms) (c.behind-a.view_is ∙ c.prog.ensures.program)) c.index-transform.result.now c.index-transform.ensures in
    let rule : c.index.result.now.rule ≡ c.behind-here.inside.rule = sym (ap (λ (j : JobValue). j.rule) c.behind-here.view_is) in
    let plan : IsPlanAt (bare_prog c.args.a.now.program) c.args.self.now.instances c.args.instance c.args.job c.in-Some.k =
    record { value = c.requires.there.value; there = c.requires.there.there; job = c.index.result.now; at = has; of = rule ∙ c.in-Some.ensures.some.0; transform = c.index-transform.result.now; is_transform = is_x; is = c.in-Some.ensures.some.1 } in
    (omega (arith, c.decreases), (c.requires.valid, (plan, c.requires.seated)))

pub job-returns-in-Some-clause-goes : goal.job-returns-in-Some-clause-goes
job-returns-in-Some-clause-goes m c =
    let here : c.index-here.result.now ≡ c.requires.there.value = same_at c.self.inside.instances.items c.args.self.now.instances (ap (λ (u : UnrolledValue). u.instances) c.self.view_is) c.args.instance c.requires.there.value c.index-here.result.now c.requires.there.there c.index-here.ensures in
    let number : c.here.inside.transform ≡ c.requires.there.value.transform = ap (λ (v : InstanceValue). v.transform) (c.here.view_is ∙ here) in
    let jobs : c.here.inside.jobs.items ≡ c.requires.there.value.jobs = ap (λ (v : InstanceValue). v.jobs) (c.here.view_is ∙ here) in
    let has : slice_get c.requires.there.value.jobs c.args.job ≡ Some c.index.result.now = subst (λ l. slice_get l c.args.job ≡ Some c.index.result.now) jobs (item_at c.here.inside.jobs.items c.args.job c.index.result.now (omega (arith, c.requires.there.below, ap length jobs)) c.index.ensures) in
    let is_x = transform_is c.args.a.now c.prog.ensures.accepted c.args.c.now c.requires.valid c.args.grain c.args.self.now c.requires.seated c.args.instance c.requires.there.value c.requires.there.there c.here.inside.transform number c.behind-a.inside.transforms.items (ap (λ (p : ProgValue). p.transforms) (c.behind-a.view_is ∙ c.prog.ensures.program)) c.index-transform.result.now c.index-transform.ensures in
    let rule : c.index.result.now.rule ≡ c.behind-here.inside.rule = sym (ap (λ (j : JobValue). j.rule) c.behind-here.view_is) in
    ok_then c.plan.result c.plan.ensures.goes (λ f. plan_goes c.args.a.now c.prog.ensures.accepted c.args.c.now c.requires.valid c.args.grain c.args.self.now c.args.instance c.args.job c.requires.there.value c.requires.there.there c.index.result.now has c.index-transform.result.now is_x c.in-Some.k (rule ∙ c.in-Some.ensures.some.0) c.in-Some.ensures.some.1 (deeper_unroll (bare_prog c.args.a.now.program) c.args.a.now.found c.args.c.now c.args.grain c.args.depth) c.plan.new.self f)

pub job-returns-clause-goes : goal.job-returns-clause-goes
job-returns-clause-goes m c = λ i j at.
    let here : c.index-here.result.now ≡ c.requires.there.value = same_at c.self.inside.instances.items c.args.self.now.instances (ap (λ (u : UnrolledValue). u.instances) c.self.view_is) c.args.instance c.requires.there.value c.index-here.result.now c.requires.there.there c.index-here.ensures in
    let number : c.here.inside.transform ≡ c.requires.there.value.transform = ap (λ (v : InstanceValue). v.transform) (c.here.view_is ∙ here) in
    let jobs : c.here.inside.jobs.items ≡ c.requires.there.value.jobs = ap (λ (v : InstanceValue). v.jobs) (c.here.view_is ∙ here) in
    let has : slice_get c.requires.there.value.jobs c.args.job ≡ Some c.index.result.now = subst (λ l. slice_get l c.args.job ≡ Some c.index.result.now) jobs (item_at c.here.inside.jobs.items c.args.job c.index.result.now (omega (arith, c.requires.there.below, ap length jobs)) c.index.ensures) in
    let is_x = transform_is c.args.a.now c.prog.ensures.accepted c.args.c.now c.requires.valid c.args.grain c.args.self.now c.requires.seated c.args.instance c.requires.there.value c.requires.there.there c.here.inside.transform number c.behind-a.inside.transforms.items (ap (λ (p : ProgValue). p.transforms) (c.behind-a.view_is ∙ c.prog.ensures.program)) c.index-transform.result.now c.index-transform.ensures in
    let rule : c.index.result.now.rule ≡ c.behind-here.inside.rule = sym (ap (λ (j : JobValue). j.rule) c.behind-here.view_is) in
    subst (λ (u : UnrolledValue). GoesBy c.args.a.now c.args.c.now c.args.grain c.args.self.now (record { instances = u.instances; steps = c.push.new.self.items; met = u.met }) (job_done (bare_prog c.args.a.now.program) (deeper_unroll (bare_prog c.args.a.now.program) c.args.a.now.found c.args.c.now c.args.grain c.args.depth) i j.rule j (met_of c.args.self.now.met))) (sym c.self.view_is)
    (step_goes c.args.a.now c.prog.ensures.accepted c.args.c.now c.requires.valid c.args.grain c.args.self.now c.args.instance c.args.job c.requires.there.value c.requires.there.there c.index.result.now has c.index-transform.result.now is_x c.behind-here.inside.rule rule c.in_default.ensures.none (deeper_unroll (bare_prog c.args.a.now.program) c.args.a.now.found c.args.c.now c.args.grain c.args.depth) c.push.new.self.items
    (c.in_ok-push.ensures.items ∙ ap (λ (u : UnrolledValue). u.steps ++ step.Job c.args.instance c.args.job ∷ []) c.self.view_is) i j at)

-- ---- jobs
pub jobs-job-requires : goal.jobs-job-requires
jobs-job-requires m c =
    let v = some_at c.args.self.now.instances c.args.instance c.requires.there in
    let here : c.index-here.result.now ≡ v.0 = same_at c.self.inside.instances.items c.args.self.now.instances (ap (λ (u : UnrolledValue). u.instances) c.self.view_is) c.args.instance v.0 c.index-here.result.now v.1 c.index-here.ensures in
    let jobs : c.here.inside.jobs.items ≡ v.0.jobs = ap (λ (w : InstanceValue). w.jobs) (c.here.view_is ∙ here) in
    let has : HasJob c.loop-job.self.instances c.args.instance c.loop-job.job = record { value = v.0; there = c.loop-job.invariant.keeps c.args.instance v.0 v.1; below = omega (arith, c.loop-job-test.true, c.len-count.ensures, ap length jobs) } in
    (omega (arith, c.decreases), (c.requires.valid, (has, c.loop-job.invariant.seated)))

pub jobs-loop-job-preserved : goal.jobs-loop-job-preserved
jobs-loop-job-preserved m c =
    let p = bare_prog c.args.a.now.program in
    let first = some_at c.args.self.now.instances c.args.instance c.requires.there in
    let below : (v : InstanceValue) → slice_get c.args.self.now.instances c.args.instance ≡ Some v → c.loop-job.job < length v.jobs = λ v at.
    (let here : c.index-here.result.now ≡ v = same_at c.self.inside.instances.items c.args.self.now.instances (ap (λ (u : UnrolledValue). u.instances) c.self.view_is) c.args.instance v c.index-here.result.now at c.index-here.ensures in
    let jobs : c.here.inside.jobs.items ≡ v.jobs = ap (λ (w : InstanceValue). w.jobs) (c.here.view_is ∙ here) in
    omega (arith, c.loop-job-test.true, c.len-count.ensures, ap length jobs)) in
    let done : (v : InstanceValue) (i : Instance) (at : slice_get c.args.self.now.instances c.args.instance ≡ Some v) → IsInstance p c.args.a.now.found v i → (j : JobValue) → slice_get v.jobs c.loop-job.job ≡ Some j
    → GoesBy c.args.a.now c.args.c.now c.args.grain c.loop-job.self c.job.new.self (job_done p (deeper_unroll (bare_prog c.args.a.now.program) c.args.a.now.found c.args.c.now c.args.grain c.args.depth) i j.rule j (met_of c.loop-job.self.met)) = λ v i at is j has.
    c.in_ok-job.ensures.goes i j (record { value = v; there = c.loop-job.invariant.keeps c.args.instance v at; is = is; has = has }) in
    let seat = all_at (IsSeated p c.args.a.now.found c.args.c.now c.args.grain) c.args.self.now.instances c.args.instance first.0 c.requires.seated first.1 in
    record {
      goes = λ v i at is.
          let j = some_at v.jobs c.loop-job.job (below v at) in
          job_goes c.args.a.now c.args.c.now c.args.grain (deeper_unroll (bare_prog c.args.a.now.program) c.args.a.now.found c.args.c.now c.args.grain c.args.depth) i c.args.self.now c.loop-job.self c.job.new.self v.jobs c.loop-job.job j.0 j.1 (c.loop-job.invariant.goes v i at is) (done v i at is j.0 j.1);
      keeps = λ k w at.
          let j = some_at first.0.jobs c.loop-job.job (below first.0 first.1) in
          (done first.0 (instance_for p c.args.a.now.found c.args.c.now c.args.grain first.0 seat) first.1 (stands p c.args.a.now.found c.args.c.now c.args.grain first.0 seat) j.0 j.1).grows.keeps k w (c.loop-job.invariant.keeps k w at);
      seated = c.in_ok-job.ensures.seated;
    }

pub jobs-returns-clause-goes : goal.jobs-returns-clause-goes
jobs-returns-clause-goes m c = λ v i at is.
    let here : c.index-here.result.now ≡ v = same_at c.self.inside.instances.items c.args.self.now.instances (ap (λ (u : UnrolledValue). u.instances) c.self.view_is) c.args.instance v c.index-here.result.now at c.index-here.ensures in
    let jobs : c.here.inside.jobs.items ≡ v.jobs = ap (λ (w : InstanceValue). w.jobs) (c.here.view_is ∙ here) in
    subst (λ l. GoesBy c.args.a.now c.args.c.now c.args.grain c.args.self.now c.loop-job.self (jobs_done (bare_prog c.args.a.now.program) (deeper_unroll (bare_prog c.args.a.now.program) c.args.a.now.found c.args.c.now c.args.grain c.args.depth) i l (met_of c.args.self.now.met)))
    (take_end v.jobs c.loop-job.job (omega (arith, c.loop-job-test.false, c.len-count.ensures, ap length jobs))) (c.loop-job.invariant.goes v i at is)

-- ---- a plan
pub plan-view_seats-requires : goal.plan-view_seats-requires
plan-view_seats-requires m c =
    let here : c.index-here.result.now ≡ c.requires.there.value = same_at c.self.inside.instances.items c.args.self.now.instances (ap (λ (u : UnrolledValue). u.instances) c.self.view_is) c.args.instance c.requires.there.value c.index-here.result.now c.requires.there.there c.index-here.ensures in
    let number : c.here.inside.transform ≡ c.requires.there.value.transform = ap (λ (v : InstanceValue). v.transform) (c.here.view_is ∙ here) in
    let is_x = transform_is c.args.a.now c.prog.ensures.accepted c.args.c.now c.requires.valid c.args.grain c.args.self.now c.requires.seated c.args.instance c.requires.there.value c.requires.there.there c.here.inside.transform number c.behind-a.inside.transforms.items (ap (λ (p : ProgValue). p.transforms) (c.behind-a.view_is ∙ c.prog.ensures.program)) c.index-transform.result.now c.index-transform.ensures in
    let rules : c.transform.inside.rules.items ≡ c.index-transform.result.now.rules = ap (λ (t : TransformValue). t.rules) c.transform.view_is in
    let views : c.deref.result.now ≡ c.index-rule.result.now.reads = c.deref.ensures.value ∙ ap (λ (r : RuleValue). r.reads) c.rule.view_is in
    subst (λ (v : InstanceValue). IsShowing c.index-transform.result.now.matrices v c.deref.result.now) (sym here) (subst (λ l. IsShowing c.index-transform.result.now.matrices c.requires.there.value l) (sym views) (reads_shown c.args.a.now c.prog.ensures.accepted c.args.c.now c.requires.valid c.args.grain c.args.self.now c.requires.seated c.args.instance c.args.job c.args.k c.requires.there c.index-transform.result.now is_x c.transform.inside.rules.items rules c.index-rule.result.now c.index-rule.ensures))

pub plan-boxes_in-requires : goal.plan-boxes_in-requires
plan-boxes_in-requires m c =
    let here : c.index-here.result.now ≡ c.requires.there.value = same_at c.self.inside.instances.items c.args.self.now.instances (ap (λ (u : UnrolledValue). u.instances) c.self.view_is) c.args.instance c.requires.there.value c.index-here.result.now c.requires.there.there c.index-here.ensures in
    let number : c.here.inside.transform ≡ c.requires.there.value.transform = ap (λ (v : InstanceValue). v.transform) (c.here.view_is ∙ here) in
    let is_x = transform_is c.args.a.now c.prog.ensures.accepted c.args.c.now c.requires.valid c.args.grain c.args.self.now c.requires.seated c.args.instance c.requires.there.value c.requires.there.there c.here.inside.transform number c.behind-a.inside.transforms.items (ap (λ (p : ProgValue). p.transforms) (c.behind-a.view_is ∙ c.prog.ensures.program)) c.index-transform.result.now c.index-transform.ensures in
    let rules : c.transform.inside.rules.items ≡ c.index-transform.result.now.rules = ap (λ (t : TransformValue). t.rules) c.transform.view_is in
    let views : c.deref-2.result.now ≡ c.index-rule.result.now.outs = c.deref-2.ensures.value ∙ ap (λ (r : RuleValue). r.outs) c.rule.view_is in
    subst (λ (v : InstanceValue). IsShowing c.index-transform.result.now.matrices v c.deref-2.result.now) (sym here) (subst (λ l. IsShowing c.index-transform.result.now.matrices c.requires.there.value l) (sym views) (outs_shown c.args.a.now c.prog.ensures.accepted c.args.c.now c.requires.valid c.args.grain c.args.self.now c.requires.seated c.args.instance c.args.job c.args.k c.requires.there c.index-transform.result.now is_x c.transform.inside.rules.items rules c.index-rule.result.now c.index-rule.ensures))

pub plan-of_reads-requires : goal.plan-of_reads-requires
plan-of_reads-requires m c =
    let here : c.index-here.result.now ≡ c.requires.there.value = same_at c.self.inside.instances.items c.args.self.now.instances (ap (λ (u : UnrolledValue). u.instances) c.self.view_is) c.args.instance c.requires.there.value c.index-here.result.now c.requires.there.there c.index-here.ensures in
    let number : c.here.inside.transform ≡ c.requires.there.value.transform = ap (λ (v : InstanceValue). v.transform) (c.here.view_is ∙ here) in
    let is_x = transform_is c.args.a.now c.prog.ensures.accepted c.args.c.now c.requires.valid c.args.grain c.args.self.now c.requires.seated c.args.instance c.requires.there.value c.requires.there.there c.here.inside.transform number c.behind-a.inside.transforms.items (ap (λ (p : ProgValue). p.transforms) (c.behind-a.view_is ∙ c.prog.ensures.program)) c.index-transform.result.now c.index-transform.ensures in
    let rules : c.transform.inside.rules.items ≡ c.index-transform.result.now.rules = ap (λ (t : TransformValue). t.rules) c.transform.view_is in
    let shown : c.deref.result.now ≡ c.index-rule.result.now.reads = c.deref.ensures.value ∙ ap (λ (r : RuleValue). r.reads) c.rule.view_is in
    let reads_are : c.in_ok-reads.reads.items ≡ map (shown_seat c.index-transform.result.now.matrices (sizes_of c.requires.there.value.sizes) c.requires.there.value.seats) c.index-rule.result.now.reads = c.in_ok-reads.ensures.seats ∙ (λ z. map (shown_seat c.index-transform.result.now.matrices (sizes_of (here z).sizes) (here z).seats) (shown z)) in
    let few = some_reads c.args.a.now c.prog.ensures.accepted c.args.c.now c.requires.valid c.args.grain c.args.self.now c.requires.seated c.args.instance c.args.job c.args.k c.requires.there c.index-transform.result.now is_x c.transform.inside.rules.items rules c.index-rule.result.now c.index-rule.ensures in
    record { few = omega (arith, few, ap length (c.deref-3.ensures.value ∙ reads_are), length-map c.index-rule.result.now.reads (shown_seat c.index-transform.result.now.matrices (sizes_of c.requires.there.value.sizes) c.requires.there.value.seats)) }

pub plan-plan_calls-requires : goal.plan-plan_calls-requires
plan-plan_calls-requires m c =
    let here : c.index-here.result.now ≡ c.requires.there.value = same_at c.self.inside.instances.items c.args.self.now.instances (ap (λ (u : UnrolledValue). u.instances) c.self.view_is) c.args.instance c.requires.there.value c.index-here.result.now c.requires.there.there c.index-here.ensures in
    let number : c.here.inside.transform ≡ c.requires.there.value.transform = ap (λ (v : InstanceValue). v.transform) (c.here.view_is ∙ here) in
    let is_x = transform_is c.args.a.now c.prog.ensures.accepted c.args.c.now c.requires.valid c.args.grain c.args.self.now c.requires.seated c.args.instance c.requires.there.value c.requires.there.there c.here.inside.transform number c.behind-a.inside.transforms.items (ap (λ (p : ProgValue). p.transforms) (c.behind-a.view_is ∙ c.prog.ensures.program)) c.index-transform.result.now c.index-transform.ensures in
    let rules : c.transform.inside.rules.items ≡ c.index-transform.result.now.rules = ap (λ (t : TransformValue). t.rules) c.transform.view_is in
    let top = subst (λ (s : Sizes). All (λ size. size ≤ SIZE_TOP) s.of) (sym (ap (λ (v : InstanceValue). v.sizes) (c.here.view_is ∙ here))) (sizes_top c.args.a.now c.prog.ensures.accepted c.args.c.now c.requires.valid c.args.grain c.args.self.now c.requires.seated c.args.instance c.args.job c.args.k c.requires.there c.index-transform.result.now is_x c.transform.inside.rules.items rules c.index-rule.result.now c.index-rule.ensures) in
    let small = c.in_ok-names.ensures.small (All-same IsSmall _ _ c.deref-3.ensures.value c.in_ok-reads.ensures.small) in
    (omega (arith, c.decreases), (c.requires.valid, (top, (is_plan_rule c.args.a.now c.prog.ensures.accepted c.args.c.now c.requires.valid c.args.grain c.args.self.now c.requires.seated c.args.instance c.args.job c.args.k c.requires.there c.index-transform.result.now is_x c.transform.inside.rules.items rules c.index-rule.result.now c.index-rule.ensures, (small, c.requires.seated)))))

pub plan-bounds-analyses-number : goal.plan-bounds-analyses-number
plan-bounds-analyses-number m c =
    let here : c.index-here.result.now ≡ c.requires.there.value = same_at c.self.inside.instances.items c.args.self.now.instances (ap (λ (u : UnrolledValue). u.instances) c.self.view_is) c.args.instance c.requires.there.value c.index-here.result.now c.requires.there.there c.index-here.ensures in
    let number : c.here.inside.transform ≡ c.requires.there.value.transform = ap (λ (v : InstanceValue). v.transform) (c.here.view_is ∙ here) in
    let is_x = transform_is c.args.a.now c.prog.ensures.accepted c.args.c.now c.requires.valid c.args.grain c.args.self.now c.requires.seated c.args.instance c.requires.there.value c.requires.there.there c.here.inside.transform number c.behind-a.inside.transforms.items (ap (λ (p : ProgValue). p.transforms) (c.behind-a.view_is ∙ c.prog.ensures.program)) c.index-transform.result.now c.index-transform.ensures in
    let rules : c.transform.inside.rules.items ≡ c.index-transform.result.now.rules = ap (λ (t : TransformValue). t.rules) c.transform.view_is in
    let below = analysis_below c.args.a.now c.prog.ensures.accepted c.args.c.now c.requires.valid c.args.grain c.args.self.now c.requires.seated c.args.instance c.args.job c.args.k c.requires.there c.index-transform.result.now is_x c.transform.inside.rules.items rules c.index-rule.result.now c.index-rule.ensures in
    omega (arith, below, number, ap length c.analyses.ensures)

pub plan-index-here-requires-2 : goal.plan-index-here-requires-2
plan-index-here-requires-2 m c =
    let here : c.index-here.result.now ≡ c.requires.there.value = same_at c.self.inside.instances.items c.args.self.now.instances (ap (λ (u : UnrolledValue). u.instances) c.self.view_is) c.args.instance c.requires.there.value c.index-here.result.now c.requires.there.there c.index-here.ensures in
    let number : c.here.inside.transform ≡ c.requires.there.value.transform = ap (λ (v : InstanceValue). v.transform) (c.here.view_is ∙ here) in
    let is_x = transform_is c.args.a.now c.prog.ensures.accepted c.args.c.now c.requires.valid c.args.grain c.args.self.now c.requires.seated c.args.instance c.requires.there.value c.requires.there.there c.here.inside.transform number c.behind-a.inside.transforms.items (ap (λ (p : ProgValue). p.transforms) (c.behind-a.view_is ∙ c.prog.ensures.program)) c.index-transform.result.now c.index-transform.ensures in
    let rules : c.transform.inside.rules.items ≡ c.index-transform.result.now.rules = ap (λ (t : TransformValue). t.rules) c.transform.view_is in
    let views : c.deref-2.result.now ≡ c.index-rule.result.now.outs = c.deref-2.ensures.value ∙ ap (λ (r : RuleValue). r.outs) c.rule.view_is in
    let where_outs : c.in_ok-outs.outs.items ≡ map (whole_box c.index-transform.result.now.matrices (sizes_of c.requires.there.value.sizes)) c.index-rule.result.now.outs = c.in_ok-outs.ensures ∙ (λ z. map (whole_box c.index-transform.result.now.matrices (sizes_of (here z).sizes)) (views z)) in
    let shown : c.deref.result.now ≡ c.index-rule.result.now.reads = c.deref.ensures.value ∙ ap (λ (r : RuleValue). r.reads) c.rule.view_is in
    let reads_are : c.in_ok-reads.reads.items ≡ map (shown_seat c.index-transform.result.now.matrices (sizes_of c.requires.there.value.sizes) c.requires.there.value.seats) c.index-rule.result.now.reads = c.in_ok-reads.ensures.seats ∙ (λ z. map (shown_seat c.index-transform.result.now.matrices (sizes_of (here z).sizes) (here z).seats) (shown z)) in
    let sizes : c.here.inside.sizes ≡ c.requires.there.value.sizes = ap (λ (v : InstanceValue). v.sizes) (c.here.view_is ∙ here) in
    let names : c.in_ok-names.names ≡ names_of_reads c.in_ok-reads.reads.items = (c.in_ok-names.ensures.names ∙ ap names_of_reads c.deref-3.ensures.value) in
    let of_code : (i : Instance) → IsOf c.requires.there.value.transform c.index-transform.result.now c.requires.there.value.sizes c.index-rule.result.now c.in_ok-outs.outs.items i → IsOf c.here.inside.transform c.index-transform.result.now c.here.inside.sizes c.index-rule.result.now c.deref-4.result.now i = λ i of. record {
      of_number = of.of_number ∙ sym number;
      transform = of.transform;
      sizes = of.sizes ∙ ap sizes_of (sym sizes);
      where_outs = c.deref-4.ensures.value ∙ of.where_outs ∙ ap (λ (s : Sizes). map (whole_box c.index-transform.result.now.matrices (sizes_of s)) c.index-rule.result.now.outs) (sym sizes);
    } in
    let goes : (i : Instance) → IsOf c.requires.there.value.transform c.index-transform.result.now c.requires.there.value.sizes c.index-rule.result.now c.in_ok-outs.outs.items i → GoesByPlay c.args.a.now c.args.c.now c.args.grain c.args.self.now c.plan_calls.new.self (played (unrolled_by (bare_prog c.args.a.now.program) i c.args.k (bare_rule c.index-rule.result.now) (deeper_unroll (bare_prog c.args.a.now.program) c.args.a.now.found c.args.c.now c.args.grain c.args.depth)) (calls_of_rule (bare_rule c.index-rule.result.now)) (names_of_reads c.in_ok-reads.reads.items) (met_of c.args.self.now.met)) = λ i of.
    subst (λ (n : Names Seat). GoesByPlay c.args.a.now c.args.c.now c.args.grain c.args.self.now c.plan_calls.new.self (played (unrolled_by (bare_prog c.args.a.now.program) i c.args.k (bare_rule c.index-rule.result.now) (deeper_unroll (bare_prog c.args.a.now.program) c.args.a.now.found c.args.c.now c.args.grain c.args.depth)) (calls_of_rule (bare_rule c.index-rule.result.now)) n (met_of c.args.self.now.met))) names (c.in_ok-plan_calls.ensures.goes i (of_code i of)) in
    let stays : slice_get c.plan_calls.new.self.instances c.args.instance ≡ Some c.requires.there.value = kept c.args.a.now c.prog.ensures.accepted c.args.c.now c.requires.valid c.args.grain c.args.self.now c.requires.seated c.args.instance c.args.job c.args.k c.requires.there c.index-transform.result.now is_x c.transform.inside.rules.items rules c.index-rule.result.now c.index-rule.ensures c.in_ok-outs.outs.items where_outs c.args.depth c.plan_calls.new.self c.in_ok-reads.reads.items reads_are goes in
    let below = at_below c.plan_calls.new.self.instances c.args.instance c.requires.there.value stays in
    omega (arith, below, ap (λ (u : UnrolledValue). length u.instances) c.self-2.view_is)

pub plan-index-requires : goal.plan-index-requires
plan-index-requires m c =
    let here : c.index-here.result.now ≡ c.requires.there.value = same_at c.self.inside.instances.items c.args.self.now.instances (ap (λ (u : UnrolledValue). u.instances) c.self.view_is) c.args.instance c.requires.there.value c.index-here.result.now c.requires.there.there c.index-here.ensures in
    let number : c.here.inside.transform ≡ c.requires.there.value.transform = ap (λ (v : InstanceValue). v.transform) (c.here.view_is ∙ here) in
    let is_x = transform_is c.args.a.now c.prog.ensures.accepted c.args.c.now c.requires.valid c.args.grain c.args.self.now c.requires.seated c.args.instance c.requires.there.value c.requires.there.there c.here.inside.transform number c.behind-a.inside.transforms.items (ap (λ (p : ProgValue). p.transforms) (c.behind-a.view_is ∙ c.prog.ensures.program)) c.index-transform.result.now c.index-transform.ensures in
    let rules : c.transform.inside.rules.items ≡ c.index-transform.result.now.rules = ap (λ (t : TransformValue). t.rules) c.transform.view_is in
    let views : c.deref-2.result.now ≡ c.index-rule.result.now.outs = c.deref-2.ensures.value ∙ ap (λ (r : RuleValue). r.outs) c.rule.view_is in
    let where_outs : c.in_ok-outs.outs.items ≡ map (whole_box c.index-transform.result.now.matrices (sizes_of c.requires.there.value.sizes)) c.index-rule.result.now.outs = c.in_ok-outs.ensures ∙ (λ z. map (whole_box c.index-transform.result.now.matrices (sizes_of (here z).sizes)) (views z)) in
    let shown : c.deref.result.now ≡ c.index-rule.result.now.reads = c.deref.ensures.value ∙ ap (λ (r : RuleValue). r.reads) c.rule.view_is in
    let reads_are : c.in_ok-reads.reads.items ≡ map (shown_seat c.index-transform.result.now.matrices (sizes_of c.requires.there.value.sizes) c.requires.there.value.seats) c.index-rule.result.now.reads = c.in_ok-reads.ensures.seats ∙ (λ z. map (shown_seat c.index-transform.result.now.matrices (sizes_of (here z).sizes) (here z).seats) (shown z)) in
    let sizes : c.here.inside.sizes ≡ c.requires.there.value.sizes = ap (λ (v : InstanceValue). v.sizes) (c.here.view_is ∙ here) in
    let names : c.in_ok-names.names ≡ names_of_reads c.in_ok-reads.reads.items = (c.in_ok-names.ensures.names ∙ ap names_of_reads c.deref-3.ensures.value) in
    let of_code : (i : Instance) → IsOf c.requires.there.value.transform c.index-transform.result.now c.requires.there.value.sizes c.index-rule.result.now c.in_ok-outs.outs.items i → IsOf c.here.inside.transform c.index-transform.result.now c.here.inside.sizes c.index-rule.result.now c.deref-4.result.now i = λ i of. record {
      of_number = of.of_number ∙ sym number;
      transform = of.transform;
      sizes = of.sizes ∙ ap sizes_of (sym sizes);
      where_outs = c.deref-4.ensures.value ∙ of.where_outs ∙ ap (λ (s : Sizes). map (whole_box c.index-transform.result.now.matrices (sizes_of s)) c.index-rule.result.now.outs) (sym sizes);
    } in
    let goes : (i : Instance) → IsOf c.requires.there.value.transform c.index-transform.result.now c.requires.there.value.sizes c.index-rule.result.now c.in_ok-outs.outs.items i → GoesByPlay c.args.a.now c.args.c.now c.args.grain c.args.self.now c.plan_calls.new.self (played (unrolled_by (bare_prog c.args.a.now.program) i c.args.k (bare_rule c.index-rule.result.now) (deeper_unroll (bare_prog c.args.a.now.program) c.args.a.now.found c.args.c.now c.args.grain c.args.depth)) (calls_of_rule (bare_rule c.index-rule.result.now)) (names_of_reads c.in_ok-reads.reads.items) (met_of c.args.self.now.met)) = λ i of.
    subst (λ (n : Names Seat). GoesByPlay c.args.a.now c.args.c.now c.args.grain c.args.self.now c.plan_calls.new.self (played (unrolled_by (bare_prog c.args.a.now.program) i c.args.k (bare_rule c.index-rule.result.now) (deeper_unroll (bare_prog c.args.a.now.program) c.args.a.now.found c.args.c.now c.args.grain c.args.depth)) (calls_of_rule (bare_rule c.index-rule.result.now)) n (met_of c.args.self.now.met))) names (c.in_ok-plan_calls.ensures.goes i (of_code i of)) in
    let stays : slice_get c.plan_calls.new.self.instances c.args.instance ≡ Some c.requires.there.value = kept c.args.a.now c.prog.ensures.accepted c.args.c.now c.requires.valid c.args.grain c.args.self.now c.requires.seated c.args.instance c.args.job c.args.k c.requires.there c.index-transform.result.now is_x c.transform.inside.rules.items rules c.index-rule.result.now c.index-rule.ensures c.in_ok-outs.outs.items where_outs c.args.depth c.plan_calls.new.self c.in_ok-reads.reads.items reads_are goes in
    let again : c.index-here-2.result.now ≡ c.requires.there.value = same_at c.self-2.inside.instances.items c.plan_calls.new.self.instances (ap (λ (u : UnrolledValue). u.instances) c.self-2.view_is) c.args.instance c.requires.there.value c.index-here-2.result.now stays c.index-here-2.ensures in
    let jobs : c.here-2.inside.jobs.items ≡ c.requires.there.value.jobs = ap (λ (v : InstanceValue). v.jobs) (c.here-2.view_is ∙ again) in
    let below = at_below c.requires.there.value.jobs c.args.job c.requires.there.job c.requires.there.at in
    omega (arith, below, ap length jobs)

pub plan-add_copies-requires-clause-nodes : goal.plan-add_copies-requires-clause-nodes
plan-add_copies-requires-clause-nodes m c =
    let here : c.index-here.result.now ≡ c.requires.there.value = same_at c.self.inside.instances.items c.args.self.now.instances (ap (λ (u : UnrolledValue). u.instances) c.self.view_is) c.args.instance c.requires.there.value c.index-here.result.now c.requires.there.there c.index-here.ensures in
    let number : c.here.inside.transform ≡ c.requires.there.value.transform = ap (λ (v : InstanceValue). v.transform) (c.here.view_is ∙ here) in
    let is_x = transform_is c.args.a.now c.prog.ensures.accepted c.args.c.now c.requires.valid c.args.grain c.args.self.now c.requires.seated c.args.instance c.requires.there.value c.requires.there.there c.here.inside.transform number c.behind-a.inside.transforms.items (ap (λ (p : ProgValue). p.transforms) (c.behind-a.view_is ∙ c.prog.ensures.program)) c.index-transform.result.now c.index-transform.ensures in
    let rules : c.transform.inside.rules.items ≡ c.index-transform.result.now.rules = ap (λ (t : TransformValue). t.rules) c.transform.view_is in
    let views : c.deref-2.result.now ≡ c.index-rule.result.now.outs = c.deref-2.ensures.value ∙ ap (λ (r : RuleValue). r.outs) c.rule.view_is in
    let where_outs : c.in_ok-outs.outs.items ≡ map (whole_box c.index-transform.result.now.matrices (sizes_of c.requires.there.value.sizes)) c.index-rule.result.now.outs = c.in_ok-outs.ensures ∙ (λ z. map (whole_box c.index-transform.result.now.matrices (sizes_of (here z).sizes)) (views z)) in
    let shown : c.deref.result.now ≡ c.index-rule.result.now.reads = c.deref.ensures.value ∙ ap (λ (r : RuleValue). r.reads) c.rule.view_is in
    let reads_are : c.in_ok-reads.reads.items ≡ map (shown_seat c.index-transform.result.now.matrices (sizes_of c.requires.there.value.sizes) c.requires.there.value.seats) c.index-rule.result.now.reads = c.in_ok-reads.ensures.seats ∙ (λ z. map (shown_seat c.index-transform.result.now.matrices (sizes_of (here z).sizes) (here z).seats) (shown z)) in
    let sizes : c.here.inside.sizes ≡ c.requires.there.value.sizes = ap (λ (v : InstanceValue). v.sizes) (c.here.view_is ∙ here) in
    let names : c.in_ok-names.names ≡ names_of_reads c.in_ok-reads.reads.items = (c.in_ok-names.ensures.names ∙ ap names_of_reads c.deref-3.ensures.value) in
    let of_code : (i : Instance) → IsOf c.requires.there.value.transform c.index-transform.result.now c.requires.there.value.sizes c.index-rule.result.now c.in_ok-outs.outs.items i → IsOf c.here.inside.transform c.index-transform.result.now c.here.inside.sizes c.index-rule.result.now c.deref-4.result.now i = λ i of. record {
      of_number = of.of_number ∙ sym number;
      transform = of.transform;
      sizes = of.sizes ∙ ap sizes_of (sym sizes);
      where_outs = c.deref-4.ensures.value ∙ of.where_outs ∙ ap (λ (s : Sizes). map (whole_box c.index-transform.result.now.matrices (sizes_of s)) c.index-rule.result.now.outs) (sym sizes);
    } in
    let goes : (i : Instance) → IsOf c.requires.there.value.transform c.index-transform.result.now c.requires.there.value.sizes c.index-rule.result.now c.in_ok-outs.outs.items i → GoesByPlay c.args.a.now c.args.c.now c.args.grain c.args.self.now c.plan_calls.new.self (played (unrolled_by (bare_prog c.args.a.now.program) i c.args.k (bare_rule c.index-rule.result.now) (deeper_unroll (bare_prog c.args.a.now.program) c.args.a.now.found c.args.c.now c.args.grain c.args.depth)) (calls_of_rule (bare_rule c.index-rule.result.now)) (names_of_reads c.in_ok-reads.reads.items) (met_of c.args.self.now.met)) = λ i of.
    subst (λ (n : Names Seat). GoesByPlay c.args.a.now c.args.c.now c.args.grain c.args.self.now c.plan_calls.new.self (played (unrolled_by (bare_prog c.args.a.now.program) i c.args.k (bare_rule c.index-rule.result.now) (deeper_unroll (bare_prog c.args.a.now.program) c.args.a.now.found c.args.c.now c.args.grain c.args.depth)) (calls_of_rule (bare_rule c.index-rule.result.now)) n (met_of c.args.self.now.met))) names (c.in_ok-plan_calls.ensures.goes i (of_code i of)) in
    let stays : slice_get c.plan_calls.new.self.instances c.args.instance ≡ Some c.requires.there.value = kept c.args.a.now c.prog.ensures.accepted c.args.c.now c.requires.valid c.args.grain c.args.self.now c.requires.seated c.args.instance c.args.job c.args.k c.requires.there c.index-transform.result.now is_x c.transform.inside.rules.items rules c.index-rule.result.now c.index-rule.ensures c.in_ok-outs.outs.items where_outs c.args.depth c.plan_calls.new.self c.in_ok-reads.reads.items reads_are goes in
    let again : c.index-here-2.result.now ≡ c.requires.there.value = same_at c.self-2.inside.instances.items c.plan_calls.new.self.instances (ap (λ (u : UnrolledValue). u.instances) c.self-2.view_is) c.args.instance c.requires.there.value c.index-here-2.result.now stays c.index-here-2.ensures in
    let jobs : c.here-2.inside.jobs.items ≡ c.requires.there.value.jobs = ap (λ (v : InstanceValue). v.jobs) (c.here-2.view_is ∙ again) in
    let job : c.index.result.now ≡ c.requires.there.job = same_at c.here-2.inside.jobs.items c.requires.there.value.jobs jobs c.args.job c.requires.there.job c.index.result.now c.requires.there.at c.index.ensures in
    let parts : c.deref-6.result.now ≡ c.requires.there.job.parts = c.deref-6.ensures.value ∙ ap (λ (j : JobValue). j.parts) (c.behind-here.view_is ∙ job) in
    let nodes = has_nodes c.args.a.now c.prog.ensures.accepted c.args.c.now c.requires.valid c.args.grain c.args.self.now c.requires.seated c.args.instance c.args.job c.args.k c.requires.there c.index-transform.result.now is_x c.transform.inside.rules.items rules c.index-rule.result.now c.index-rule.ensures c.analyses.result.now c.analyses.ensures c.index-analyses-number.result (subst (λ n. c.index-analyses-number.result ≡ get_or c.analyses.result.now n c.index-analyses-number.result) number c.index-analyses-number.is) in
    subst (HasNodes c.nodes-nodes.result.now) (sym parts) (subst (λ (l : List NodeValue). HasNodes l c.requires.there.job.parts) (sym c.nodes-nodes.ensures) nodes)

pub plan-add_copies-requires-clause-few : goal.plan-add_copies-requires-clause-few
plan-add_copies-requires-clause-few m c =
    let here : c.index-here.result.now ≡ c.requires.there.value = same_at c.self.inside.instances.items c.args.self.now.instances (ap (λ (u : UnrolledValue). u.instances) c.self.view_is) c.args.instance c.requires.there.value c.index-here.result.now c.requires.there.there c.index-here.ensures in
    let number : c.here.inside.transform ≡ c.requires.there.value.transform = ap (λ (v : InstanceValue). v.transform) (c.here.view_is ∙ here) in
    let is_x = transform_is c.args.a.now c.prog.ensures.accepted c.args.c.now c.requires.valid c.args.grain c.args.self.now c.requires.seated c.args.instance c.requires.there.value c.requires.there.there c.here.inside.transform number c.behind-a.inside.transforms.items (ap (λ (p : ProgValue). p.transforms) (c.behind-a.view_is ∙ c.prog.ensures.program)) c.index-transform.result.now c.index-transform.ensures in
    let rules : c.transform.inside.rules.items ≡ c.index-transform.result.now.rules = ap (λ (t : TransformValue). t.rules) c.transform.view_is in
    let views : c.deref-2.result.now ≡ c.index-rule.result.now.outs = c.deref-2.ensures.value ∙ ap (λ (r : RuleValue). r.outs) c.rule.view_is in
    let where_outs : c.in_ok-outs.outs.items ≡ map (whole_box c.index-transform.result.now.matrices (sizes_of c.requires.there.value.sizes)) c.index-rule.result.now.outs = c.in_ok-outs.ensures ∙ (λ z. map (whole_box c.index-transform.result.now.matrices (sizes_of (here z).sizes)) (views z)) in
    let few = some_outs c.args.a.now c.prog.ensures.accepted c.args.c.now c.requires.valid c.args.grain c.args.self.now c.requires.seated c.args.instance c.args.job c.args.k c.requires.there c.index-transform.result.now is_x c.transform.inside.rules.items rules c.index-rule.result.now c.index-rule.ensures in
    omega (arith, few, ap length (c.deref-5.ensures.value ∙ where_outs), length-map c.index-rule.result.now.outs (whole_box c.index-transform.result.now.matrices (sizes_of c.requires.there.value.sizes)))

pub plan-returns-clause-goes : goal.plan-returns-clause-goes
plan-returns-clause-goes m c =
    let here : c.index-here.result.now ≡ c.requires.there.value = same_at c.self.inside.instances.items c.args.self.now.instances (ap (λ (u : UnrolledValue). u.instances) c.self.view_is) c.args.instance c.requires.there.value c.index-here.result.now c.requires.there.there c.index-here.ensures in
    let number : c.here.inside.transform ≡ c.requires.there.value.transform = ap (λ (v : InstanceValue). v.transform) (c.here.view_is ∙ here) in
    let is_x = transform_is c.args.a.now c.prog.ensures.accepted c.args.c.now c.requires.valid c.args.grain c.args.self.now c.requires.seated c.args.instance c.requires.there.value c.requires.there.there c.here.inside.transform number c.behind-a.inside.transforms.items (ap (λ (p : ProgValue). p.transforms) (c.behind-a.view_is ∙ c.prog.ensures.program)) c.index-transform.result.now c.index-transform.ensures in
    let rules : c.transform.inside.rules.items ≡ c.index-transform.result.now.rules = ap (λ (t : TransformValue). t.rules) c.transform.view_is in
    let views : c.deref-2.result.now ≡ c.index-rule.result.now.outs = c.deref-2.ensures.value ∙ ap (λ (r : RuleValue). r.outs) c.rule.view_is in
    let where_outs : c.in_ok-outs.outs.items ≡ map (whole_box c.index-transform.result.now.matrices (sizes_of c.requires.there.value.sizes)) c.index-rule.result.now.outs = c.in_ok-outs.ensures ∙ (λ z. map (whole_box c.index-transform.result.now.matrices (sizes_of (here z).sizes)) (views z)) in
    let shown : c.deref.result.now ≡ c.index-rule.result.now.reads = c.deref.ensures.value ∙ ap (λ (r : RuleValue). r.reads) c.rule.view_is in
    let reads_are : c.in_ok-reads.reads.items ≡ map (shown_seat c.index-transform.result.now.matrices (sizes_of c.requires.there.value.sizes) c.requires.there.value.seats) c.index-rule.result.now.reads = c.in_ok-reads.ensures.seats ∙ (λ z. map (shown_seat c.index-transform.result.now.matrices (sizes_of (here z).sizes) (here z).seats) (shown z)) in
    let sizes : c.here.inside.sizes ≡ c.requires.there.value.sizes = ap (λ (v : InstanceValue). v.sizes) (c.here.view_is ∙ here) in
    let names : c.in_ok-names.names ≡ names_of_reads c.in_ok-reads.reads.items = (c.in_ok-names.ensures.names ∙ ap names_of_reads c.deref-3.ensures.value) in
    let of_code : (i : Instance) → IsOf c.requires.there.value.transform c.index-transform.result.now c.requires.there.value.sizes c.index-rule.result.now c.in_ok-outs.outs.items i → IsOf c.here.inside.transform c.index-transform.result.now c.here.inside.sizes c.index-rule.result.now c.deref-4.result.now i = λ i of. record {
      of_number = of.of_number ∙ sym number;
      transform = of.transform;
      sizes = of.sizes ∙ ap sizes_of (sym sizes);
      where_outs = c.deref-4.ensures.value ∙ of.where_outs ∙ ap (λ (s : Sizes). map (whole_box c.index-transform.result.now.matrices (sizes_of s)) c.index-rule.result.now.outs) (sym sizes);
    } in
    let goes : (i : Instance) → IsOf c.requires.there.value.transform c.index-transform.result.now c.requires.there.value.sizes c.index-rule.result.now c.in_ok-outs.outs.items i → GoesByPlay c.args.a.now c.args.c.now c.args.grain c.args.self.now c.plan_calls.new.self (played (unrolled_by (bare_prog c.args.a.now.program) i c.args.k (bare_rule c.index-rule.result.now) (deeper_unroll (bare_prog c.args.a.now.program) c.args.a.now.found c.args.c.now c.args.grain c.args.depth)) (calls_of_rule (bare_rule c.index-rule.result.now)) (names_of_reads c.in_ok-reads.reads.items) (met_of c.args.self.now.met)) = λ i of.
    subst (λ (n : Names Seat). GoesByPlay c.args.a.now c.args.c.now c.args.grain c.args.self.now c.plan_calls.new.self (played (unrolled_by (bare_prog c.args.a.now.program) i c.args.k (bare_rule c.index-rule.result.now) (deeper_unroll (bare_prog c.args.a.now.program) c.args.a.now.found c.args.c.now c.args.grain c.args.depth)) (calls_of_rule (bare_rule c.index-rule.result.now)) n (met_of c.args.self.now.met))) names (c.in_ok-plan_calls.ensures.goes i (of_code i of)) in
    let stays : slice_get c.plan_calls.new.self.instances c.args.instance ≡ Some c.requires.there.value = kept c.args.a.now c.prog.ensures.accepted c.args.c.now c.requires.valid c.args.grain c.args.self.now c.requires.seated c.args.instance c.args.job c.args.k c.requires.there c.index-transform.result.now is_x c.transform.inside.rules.items rules c.index-rule.result.now c.index-rule.ensures c.in_ok-outs.outs.items where_outs c.args.depth c.plan_calls.new.self c.in_ok-reads.reads.items reads_are goes in
    let again : c.index-here-2.result.now ≡ c.requires.there.value = same_at c.self-2.inside.instances.items c.plan_calls.new.self.instances (ap (λ (u : UnrolledValue). u.instances) c.self-2.view_is) c.args.instance c.requires.there.value c.index-here-2.result.now stays c.index-here-2.ensures in
    let jobs : c.here-2.inside.jobs.items ≡ c.requires.there.value.jobs = ap (λ (v : InstanceValue). v.jobs) (c.here-2.view_is ∙ again) in
    let job : c.index.result.now ≡ c.requires.there.job = same_at c.here-2.inside.jobs.items c.requires.there.value.jobs jobs c.args.job c.requires.there.job c.index.result.now c.requires.there.at c.index.ensures in
    let parts : c.deref-6.result.now ≡ c.requires.there.job.parts = c.deref-6.ensures.value ∙ ap (λ (j : JobValue). j.parts) (c.behind-here.view_is ∙ job) in
    let found : slice_get c.args.a.now.found c.requires.there.value.transform ≡ Some c.index-analyses-number.result =
    subst (λ l. slice_get l c.requires.there.value.transform ≡ Some c.index-analyses-number.result) c.analyses.ensures (subst (λ n. slice_get c.analyses.result.now n ≡ Some c.index-analyses-number.result) number
    (item_at c.analyses.result.now c.here.inside.transform c.index-analyses-number.result (omega (arith, analysis_below c.args.a.now c.prog.ensures.accepted c.args.c.now c.requires.valid c.args.grain c.args.self.now c.requires.seated c.args.instance c.args.job c.args.k c.requires.there c.index-transform.result.now is_x c.transform.inside.rules.items rules c.index-rule.result.now c.index-rule.ensures, number, ap length c.analyses.ensures)) c.index-analyses-number.is)) in
    let last : (i : Instance) → IsOf c.requires.there.value.transform c.index-transform.result.now c.requires.there.value.sizes c.index-rule.result.now c.in_ok-outs.outs.items i → c.plan_calls.new.names ≡ (played (unrolled_by (bare_prog c.args.a.now.program) i c.args.k (bare_rule c.index-rule.result.now) (deeper_unroll (bare_prog c.args.a.now.program) c.args.a.now.found c.args.c.now c.args.grain c.args.depth)) (calls_of_rule (bare_rule c.index-rule.result.now)) (names_of_reads c.in_ok-reads.reads.items) (met_of c.args.self.now.met)).names = λ i of.
    c.in_ok-plan_calls.ensures.names i (of_code i of) ∙ ap (λ (n : Names Seat). (played (unrolled_by (bare_prog c.args.a.now.program) i c.args.k (bare_rule c.index-rule.result.now) (deeper_unroll (bare_prog c.args.a.now.program) c.args.a.now.found c.args.c.now c.args.grain c.args.depth)) (calls_of_rule (bare_rule c.index-rule.result.now)) n (met_of c.args.self.now.met)).names) names in
    ok_then c.add_copies.result c.add_copies.ensures (λ f i j r at there.
    subst (λ (u : UnrolledValue). GoesBy c.args.a.now c.args.c.now c.args.grain c.args.self.now (record { instances = u.instances; steps = c.add_copies.new.steps.items; met = u.met }) (plan_done (bare_prog c.args.a.now.program) (deeper_unroll (bare_prog c.args.a.now.program) c.args.a.now.found c.args.c.now c.args.grain c.args.depth) i j c.args.k r (met_of c.args.self.now.met))) (sym c.self-2.view_is)
    (plan_done_goes c.args.a.now c.prog.ensures.accepted c.args.c.now c.requires.valid c.args.grain c.args.self.now c.requires.seated c.args.instance c.args.job c.args.k c.requires.there c.index-transform.result.now is_x c.transform.inside.rules.items rules c.index-rule.result.now c.index-rule.ensures c.in_ok-outs.outs.items where_outs c.args.depth c.plan_calls.new.self c.in_ok-reads.reads.items reads_are goes c.plan_calls.new.names last c.index-analyses-number.result found c.add_copies.new.steps.items
    (λ n q vs is nodes_are parts_are boxes. subst (λ (u : UnrolledValue). Appends (bare_prog c.args.a.now.program) c.args.a.now.found c.plan_calls.new.self.instances u.steps c.add_copies.new.steps.items (copies_of n q c.plan_calls.new.names 0 vs)) c.self-2.view_is
    (f (bare_prog c.args.a.now.program) c.args.a.now.found c.plan_calls.new.self.instances n q vs is (nodes_are ∙ sym c.nodes-nodes.ensures) (parts_are ∙ sym parts) (c.deref-5.ensures.value ∙ boxes)))
    i j r at there))

pub plan-returns-clause-seated : goal.plan-returns-clause-seated
plan-returns-clause-seated m c = ok_always c.add_copies.result (subst (λ (u : UnrolledValue). AreSeated c.args.a.now c.args.c.now c.args.grain u.instances) (sym c.self-2.view_is) c.in_ok-plan_calls.ensures.seated)

-- ---- a call of a plan
pub plan_call-returns-then-depth-eq0-clause-goes : goal.plan_call-returns-then-depth-eq0-clause-goes
plan_call-returns-then-depth-eq0-clause-goes m c =
    ok_two c.fail_call.result c.fail_call.ensures.steps c.fail_call.ensures.met (λ adds met i of.
    subst (λ (u : UnrolledValue). GoesByCall c.args.a.now c.args.c.now c.args.grain u (record { instances = c.self.inside.instances.items; steps = c.fail_call.new.steps.items; met = c.fail_call.new.met }) (unrolled_by (bare_prog c.args.a.now.program) i c.args.k (bare_rule c.args.rule.now) (deeper_unroll (bare_prog c.args.a.now.program) c.args.a.now.found c.args.c.now c.args.grain c.args.depth) c.args.call.now c.args.given.items (met_of u.met))) c.self.view_is
    (ended_goes c.args.a.now c.args.c.now c.args.grain c.args.depth c.args.number c.args.t.now c.args.s.now c.args.rule.now c.args.outs.now c.args.k c.args.call.now c.args.given.items (record { instances = c.self.inside.instances.items; steps = c.self.inside.steps.items; met = c.self.inside.met }) i of c.if-depth-eq0.true c.trap_of-trap.result (c.trap_of-trap.ensures c.args.t.now.matrices (sizes_of c.args.s.now) (bare_rule c.args.rule.now) c.requires.plan of.where_outs) c.fail_call.new.steps.items c.fail_call.new.met (adds (bare_prog c.args.a.now.program) c.args.a.now.found c.self.inside.instances.items) met))

pub plan_call-returns-then-is_none-clause-goes : goal.plan_call-returns-then-is_none-clause-goes
plan_call-returns-then-is_none-clause-goes m c =
    ok_two c.fail_call-then-is_none.result c.fail_call-then-is_none.ensures.steps c.fail_call-then-is_none.ensures.met (λ adds met i of.
    subst (λ (u : UnrolledValue). GoesByCall c.args.a.now c.args.c.now c.args.grain u (record { instances = c.self.inside.instances.items; steps = c.fail_call-then-is_none.new.steps.items; met = c.fail_call-then-is_none.new.met }) (unrolled_by (bare_prog c.args.a.now.program) i c.args.k (bare_rule c.args.rule.now) (deeper_unroll (bare_prog c.args.a.now.program) c.args.a.now.found c.args.c.now c.args.grain c.args.depth) c.args.call.now c.args.given.items (met_of u.met))) c.self.view_is
    (bad_goes c.args.a.now c.args.c.now c.args.grain c.args.depth c.args.number c.args.t.now c.args.s.now c.args.rule.now c.args.outs.now c.args.k c.args.call.now c.args.given.items (record { instances = c.self.inside.instances.items; steps = c.self.inside.steps.items; met = c.self.inside.met }) i of (omega (arith, c.if-depth-eq0.false)) (unfit c.args.t.now.matrices (sizes_of c.args.s.now) (bare_prog c.args.a.now.program) (bare_rule c.args.rule.now) c.args.call.now c.in_ok-sizes_of_call.field-0 (subst (λ p. option_map sizes_of c.in_ok-sizes_of_call.field-0 ≡ sizes_of_call c.args.t.now.matrices (sizes_of c.args.s.now) p (bare_rule c.args.rule.now) c.args.call.now) (ap bare_prog c.prog.ensures.program) c.in_ok-sizes_of_call.ensures) (ap not c.is_none.ensures ∙ ap (λ b. not (not b)) c.if-is_none.true)) c.trap_of-trap-then-is_none.result (c.trap_of-trap-then-is_none.ensures c.args.t.now.matrices (sizes_of c.args.s.now) (bare_rule c.args.rule.now) c.requires.plan of.where_outs) c.fail_call-then-is_none.new.steps.items c.fail_call-then-is_none.new.met (adds (bare_prog c.args.a.now.program) c.args.a.now.found c.self.inside.instances.items) met))

pub plan_call-returns-then-is_none-clause-seated : goal.plan_call-returns-then-is_none-clause-seated
plan_call-returns-then-is_none-clause-seated m c = ok_always c.fail_call-then-is_none.result (subst (λ (u : UnrolledValue). AreSeated c.args.a.now c.args.c.now c.args.grain u.instances) (sym c.self.view_is) c.requires.seated)

pub plan_call-call-requires : goal.plan_call-call-requires
plan_call-call-requires m c =
    let fit = does_fit c.args.t.now.matrices (sizes_of c.args.s.now) (bare_prog c.args.a.now.program) (bare_rule c.args.rule.now) c.args.call.now c.in_ok-sizes_of_call.field-0 (subst (λ p. option_map sizes_of c.in_ok-sizes_of_call.field-0 ≡ sizes_of_call c.args.t.now.matrices (sizes_of c.args.s.now) p (bare_rule c.args.rule.now) c.args.call.now) (ap bare_prog c.prog.ensures.program) c.in_ok-sizes_of_call.ensures) (ap not c.is_none.ensures ∙ ap (λ b. not (not b)) c.if-is_none.false) in
    let called = fits_below c.args.t.now.matrices (sizes_of c.args.s.now) (bare_prog c.args.a.now.program) (bare_rule c.args.rule.now) c.args.call.now fit in
    let below = at_below (bare_prog c.args.a.now.program) c.args.call.now.transform called.0 called.1 in
    (omega (arith, c.decreases, c.if-depth-eq0.false), (c.requires.valid, (omega (arith, below, ap (λ (q : PlanCallValue). q.transform) c.call.view_is), (c.requires.given, c.requires.seated))))

pub plan_call-index-called-requires : goal.plan_call-index-called-requires
plan_call-index-called-requires m c =
    let fit = does_fit c.args.t.now.matrices (sizes_of c.args.s.now) (bare_prog c.args.a.now.program) (bare_rule c.args.rule.now) c.args.call.now c.in_ok-sizes_of_call.field-0 (subst (λ p. option_map sizes_of c.in_ok-sizes_of_call.field-0 ≡ sizes_of_call c.args.t.now.matrices (sizes_of c.args.s.now) p (bare_rule c.args.rule.now) c.args.call.now) (ap bare_prog c.prog.ensures.program) c.in_ok-sizes_of_call.ensures) (ap not c.is_none.ensures ∙ ap (λ b. not (not b)) c.if-is_none.false) in
    let called = fits_below c.args.t.now.matrices (sizes_of c.args.s.now) (bare_prog c.args.a.now.program) (bare_rule c.args.rule.now) c.args.call.now fit in
    let below = at_below (bare_prog c.args.a.now.program) c.args.call.now.transform called.0 called.1 in
    let held : c.behind-a.inside.transforms.items ≡ c.args.a.now.program.transforms = ap (λ (p : ProgValue). p.transforms) (c.behind-a.view_is ∙ c.prog-2.ensures.program) in
    omega (arith, below, ap (λ (q : PlanCallValue). q.transform) c.call.view_is, ap length held, length-map c.args.a.now.program.transforms bare_transform)

pub plan_call-returns-clause-seats : goal.plan_call-returns-clause-seats
plan_call-returns-clause-seats m c =
    let fit = does_fit c.args.t.now.matrices (sizes_of c.args.s.now) (bare_prog c.args.a.now.program) (bare_rule c.args.rule.now) c.args.call.now c.in_ok-sizes_of_call.field-0 (subst (λ p. option_map sizes_of c.in_ok-sizes_of_call.field-0 ≡ sizes_of_call c.args.t.now.matrices (sizes_of c.args.s.now) p (bare_rule c.args.rule.now) c.args.call.now) (ap bare_prog c.prog.ensures.program) c.in_ok-sizes_of_call.ensures) (ap not c.is_none.ensures ∙ ap (λ b. not (not b)) c.if-is_none.false) in
    let called = fits_below c.args.t.now.matrices (sizes_of c.args.s.now) (bare_prog c.args.a.now.program) (bare_rule c.args.rule.now) c.args.call.now fit in
    let number : c.call.inside.transform ≡ c.args.call.now.transform = ap (λ (q : PlanCallValue). q.transform) c.call.view_is in
    let below = at_below (bare_prog c.args.a.now.program) c.args.call.now.transform called.0 called.1 in
    let there : slice_get (bare_prog c.args.a.now.program) c.args.call.now.transform ≡ Some (bare_transform c.index-called.result.now) = subst (λ n. slice_get (bare_prog c.args.a.now.program) n ≡ Some (bare_transform c.index-called.result.now)) number
    (transform_there c.args.a.now c.prog.ensures.accepted c.call.inside.transform (omega (arith, below, number)) c.behind-a.inside.transforms.items (ap (λ (p : ProgValue). p.transforms) (c.behind-a.view_is ∙ c.prog-2.ensures.program)) c.index-called.result.now c.index-called.ensures) in
    let middles : c.called.inside.middles ≡ option_map_or (λ (t : ProgTransform). t.middles) (slice_get (bare_prog c.args.a.now.program) c.args.call.now.transform) 0 = ap (λ (t : TransformValue). t.middles) c.called.view_is ∙ sym (ap (λ o. option_map_or (λ (t : ProgTransform). t.middles) o 0) there) in
    if_ok c.without_first.result c.without_first.ensures.seats (λ seats is i of.
    let own = c.deref.ensures.value ∙ c.in_ok-own.ensures.seats in
    is ∙ (λ z. drop (middles z) (own z)) ∙ (λ z. drop (option_map_or (λ (t : ProgTransform). t.middles) (slice_get (bare_prog c.args.a.now.program) c.args.call.now.transform) 0) (unroll (bare_prog c.args.a.now.program) c.args.a.now.found c.args.c.now c.args.grain (c.args.depth - 1) (number z) c.args.given.items (met_of c.args.self.now.met)).seats)
    ∙ ap (λ (u : Unrolled). u.seats) (sym (fit_is c.args.a.now c.args.c.now c.args.grain c.args.depth c.args.number c.args.t.now c.args.s.now c.args.rule.now c.args.outs.now c.args.k c.args.call.now c.args.given.items c.args.self.now i of (omega (arith, c.if-depth-eq0.false)) fit)))

-- ---- the calls of a plan
pub plan_calls-loop-call-preserved : goal.plan_calls-loop-call-preserved
plan_calls-loop-call-preserved m c =
    let make = λ (i : Instance). unrolled_by (bare_prog c.args.a.now.program) i c.args.k (bare_rule c.args.rule.now) (deeper_unroll (bare_prog c.args.a.now.program) c.args.a.now.found c.args.c.now c.args.grain c.args.depth) in
    let calls = calls_of_rule (bare_rule c.args.rule.now) in
    let items : c.calls_of-call-items.result.now ≡ calls = c.calls_of-call-items.ensures in
    let below : c.loop-call.call-index < length calls = omega (arith, c.loop-call-test.true, ap length items) in
    let item : c.call-item.result ≡ get_or calls c.loop-call.call-index c.call-item.result = c.call-item.is ∙ ap (λ l. get_or l c.loop-call.call-index c.call-item.result) items in
    let given : c.in_ok-given.given.items ≡ map (named no_seat c.loop-call.names) (get_or calls c.loop-call.call-index c.call-item.result).arguments = c.in_ok-given.ensures.seats ∙ ap (map (named no_seat c.loop-call.names)) (c.deref.ensures.value ∙ ap (λ (q : PlanCallValue). q.arguments) c.call.view_is ∙ ap (λ (q : PlanCallValue). q.arguments) item) in
    let targets : c.deref-in-loop-call.result.now ≡ (get_or calls c.loop-call.call-index c.call-item.result).targets = c.deref-in-loop-call.ensures.value ∙ ap (λ (q : PlanCallValue). q.targets) c.call.view_is ∙ ap (λ (q : PlanCallValue). q.targets) item in
    let made : (i : Instance) → IsOf c.args.number c.args.t.now c.args.s.now c.args.rule.now c.args.outs.now i → c.in_ok-made.made.items ≡ (make i (get_or calls c.loop-call.call-index c.call-item.result) c.in_ok-given.given.items (met_of c.loop-call.self.met)).seats = λ i of.
    c.in_ok-made.ensures.seats i of ∙ ap (λ (q : PlanCallValue). (make i q c.in_ok-given.given.items (met_of c.loop-call.self.met)).seats) item in
    record {
      names = λ i of. next_names c.args.a.now c.args.c.now c.args.grain (make i) calls c.loop-call.call-index c.call-item.result below c.args.names.now c.args.self.now c.loop-call.self c.plan_call.new.self c.loop-call.names (c.loop-call.invariant.names i of) (c.loop-call.invariant.goes i of) c.in_ok-given.given.items c.in_ok-made.made.items given (made i of) c.give.new.self
          (c.in_ok-give.ensures.names ∙ (λ z. zip (targets z) (c.deref-in-loop-call-2.ensures.value z) ++ c.loop-call.names));
      goes = λ i of. next_goes c.args.a.now c.args.c.now c.args.grain (make i) calls c.loop-call.call-index c.call-item.result below c.args.names.now c.args.self.now c.loop-call.self c.plan_call.new.self c.loop-call.names (c.loop-call.invariant.names i of) (c.loop-call.invariant.goes i of) c.in_ok-given.given.items c.in_ok-made.made.items given (made i of)
          (subst (λ (q : PlanCallValue). GoesByCall c.args.a.now c.args.c.now c.args.grain c.loop-call.self c.plan_call.new.self (make i q c.in_ok-given.given.items (met_of c.loop-call.self.met))) item (c.in_ok-made.ensures.goes i of));
      small = c.in_ok-give.ensures.small c.loop-call.invariant.small (All-same IsSmall _ _ c.deref-in-loop-call-2.ensures.value c.in_ok-made.ensures.small);
      seated = c.in_ok-made.ensures.seated;
    }

pub plan_calls-returns-clause-names : goal.plan_calls-returns-clause-names
plan_calls-returns-clause-names m c = λ i of.
    subst (λ l. c.loop-call.names ≡ (played (unrolled_by (bare_prog c.args.a.now.program) i c.args.k (bare_rule c.args.rule.now) (deeper_unroll (bare_prog c.args.a.now.program) c.args.a.now.found c.args.c.now c.args.grain c.args.depth)) l c.args.names.now (met_of c.args.self.now.met)).names)
    (take_end (calls_of_rule (bare_rule c.args.rule.now)) c.loop-call.call-index (omega (arith, c.loop-call-test.false, ap length c.calls_of-call-items.ensures))) (c.loop-call.invariant.names i of)

pub plan_calls-returns-clause-goes : goal.plan_calls-returns-clause-goes
plan_calls-returns-clause-goes m c = λ i of.
    subst (λ l. GoesByPlay c.args.a.now c.args.c.now c.args.grain c.args.self.now c.loop-call.self (played (unrolled_by (bare_prog c.args.a.now.program) i c.args.k (bare_rule c.args.rule.now) (deeper_unroll (bare_prog c.args.a.now.program) c.args.a.now.found c.args.c.now c.args.grain c.args.depth)) l c.args.names.now (met_of c.args.self.now.met)))
    (take_end (calls_of_rule (bare_rule c.args.rule.now)) c.loop-call.call-index (omega (arith, c.loop-call-test.false, ap length c.calls_of-call-items.ensures))) (c.loop-call.invariant.goes i of)
