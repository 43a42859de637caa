use Rattle.std.proofs.Common.{Option}
use Rattle.pb_linear.specs.Sizes.{sizes_of}
use Rattle.pb_program.specs.Plans.{PlanCallValue}
use Rattle.pb_program.specs.Trees.{bare_prog, bare_rule, bare_transform}
use Rattle.pb_recursion.specs.Counts.{Counted, Counter, call_count}
use Rattle.pb_counts.proofs.AddLemmas.{more_item, more_next}
use Rattle.pb_counts.proofs.calls.add_calls.Goals as goal

pub loop-call-preserved : goal.loop-call-preserved
loop-call-preserved c =
    let p = bare_prog c.args.prog.now in
    let one : Option Counter → PlanCallValue → Counted = λ d call. call_count p (bare_transform c.args.t.now) (sizes_of c.args.s.now) d (bare_rule c.args.rule.now) call in (
      more_next p c.args.deep one c.args.calls.now c.loop-call.call-index c.call-item.result c.loop-call-test.true c.args.g.now c.loop-call.g c.add_call.new.g c.loop-call.invariant.0
          (more_item p c.args.deep one c.args.calls.now c.loop-call.call-index c.call-item.result c.call-item.is c.loop-call.g c.add_call.new.g c.in_ok-add_call.ensures.more),
      λ all. c.in_ok-add_call.ensures.next (c.loop-call.invariant.1 all),
    )
