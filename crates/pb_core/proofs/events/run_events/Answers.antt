use Rattle.pb_core.specs.States.{first_state}
use Rattle.pb_core.specs.Cores.{state_of}
use Rattle.pb_core.proofs.RunLemmas.{run-enabled, run-state}
use Rattle.pb_core.proofs.events.run_events.Goals as goal

pub loop-at-preserved : goal.loop-at-preserved
loop-at-preserved g c =
    let p = g.N.NamesWork.plan in record {
      enabled = run-enabled p (first_state p c.args.hands) c.args.events.now c.loop-at.at _ c.loop-at-test.true (state_of p c.loop-at.core) c.loop-at.invariant.state c.loop-at.invariant.enabled c.in-Ok.ensures.0;
      state = run-state p (first_state p c.args.hands) c.args.events.now c.loop-at.at _ c.loop-at-test.true (state_of p c.loop-at.core) c.loop-at.invariant.state (state_of p c.step.new.self) c.in-Ok.ensures.1;
    }
