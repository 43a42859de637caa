use Rattle.std.proofs.Common.{◌≡◌, ◌+◌, ◌*◌, Some, slice_get, take}
use Rattle.pb_program.specs.Trees.{bare_prog, bare_rule}
use Rattle.pb_recursion.specs.Plans.{calls_of_rule}
use Rattle.pb_counts.specs.Handed.{Instance}
use Rattle.pb_counts.specs.Handed.{deeper_unroll, jobs_done, played, unrolled_by}
use Rattle.pb_steps.specs.Rules.{IsOf}
use Rattle.pb_steps.specs.Stands.{AreSeated, AreSmall, GoesBy, GoesByPlay, IsInstance, met_of}
use Rattle.pb_steps.specs.Values.{InstanceValue}
use Rattle.pb_steps.proofs.GrowLemmas.{Keeps}
use Rattle.pb_steps.proofs.unrolling.Unrolled.+calls.Given as goal

abbrev pub decreases-call : goal.decreases-call
decreases-call l = 6 * l.depth + 5

abbrev pub decreases-jobs : goal.decreases-jobs
decreases-jobs l = 6 * l.depth + 4

abbrev pub decreases-job : goal.decreases-job
decreases-job l = 6 * l.depth + 3

abbrev pub decreases-plan : goal.decreases-plan
decreases-plan l = 6 * l.depth + 2

abbrev pub decreases-plan_calls : goal.decreases-plan_calls
decreases-plan_calls l = 6 * l.depth + 1

abbrev pub decreases-plan_call : goal.decreases-plan_call
decreases-plan_call l = 6 * l.depth

abbrev pub invariant-jobs-loop-job : goal.invariant-jobs-loop-job
invariant-jobs-loop-job l = record {
  goes : (v : InstanceValue) (i : Instance) → slice_get l.initial.self.instances l.instance ≡ Some v → IsInstance (bare_prog l.a.program) l.a.found v i
      → GoesBy l.a l.c l.grain l.initial.self l.self (jobs_done (bare_prog l.a.program) (deeper_unroll (bare_prog l.a.program) l.a.found l.c l.grain l.depth) i (take l.job v.jobs) (met_of l.initial.self.met));
  keeps : Keeps l.initial.self.instances l.self.instances;
  seated : AreSeated l.a l.c l.grain l.self.instances;
}

abbrev pub invariant-plan_calls-loop-call : goal.invariant-plan_calls-loop-call
invariant-plan_calls-loop-call l = record {
  names : (i : Instance) → IsOf l.number l.t l.s l.rule l.outs i
      → l.names ≡ (played (unrolled_by (bare_prog l.a.program) i l.k (bare_rule l.rule) (deeper_unroll (bare_prog l.a.program) l.a.found l.c l.grain l.depth)) (take l.call-index (calls_of_rule (bare_rule l.rule))) l.initial.names (met_of l.initial.self.met)).names;
  goes : (i : Instance) → IsOf l.number l.t l.s l.rule l.outs i
      → GoesByPlay l.a l.c l.grain l.initial.self l.self (played (unrolled_by (bare_prog l.a.program) i l.k (bare_rule l.rule) (deeper_unroll (bare_prog l.a.program) l.a.found l.c l.grain l.depth)) (take l.call-index (calls_of_rule (bare_rule l.rule))) l.initial.names (met_of l.initial.self.met));
  small : AreSmall l.names;
  seated : AreSeated l.a l.c l.grain l.self.instances;
}
