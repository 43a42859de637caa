use Rattle.std.proofs.Common.{◌+◌, ◌∙◌, ap, subst, sym, arith}
use Rattle.pb_taskgraph.proofs.TurnLemmas.{some-none}
use Rattle.pb_taskgraph.specs.Turns.{after_some}
use Rattle.pb_run_trials.specs.Given.{GivenValue, IsGiven, given_plan}
use Rattle.pb_run_trials.proofs.GivenLemmas.{run-below, run-more, run-over, run-write}
use Rattle.pb_run_trials.proofs.given.GivenWork.run.Goals as goal

pub end-cell-end-requires : goal.end-cell-end-requires
unfolding given_plan
end-cell-end-requires g c = c.requires.task

pub loop-cell-init : goal.loop-cell-init
loop-cell-init g c = sym (some-none (g.C.CellReader.turn c.args.port.now)) ∙ ap (λ k. after_some k (g.C.CellReader.turn c.args.port.now)) (omega arith)

pub outcome-requires : goal.outcome-requires
unfolding given_plan
outcome-requires g c =
    let w = c.args.self.now in
    let is = subst IsGiven c.self.view_is c.self.invariant in
    run-below w is c.args.task c.requires.task _ c.requires.begins (c.inputs.result + c.from.result) c.loop-cell.cell _ (omega (arith, c.inputs.ensures, c.from.ensures, ap (λ (v : GivenValue). v.graph.inputs) c.self.view_is)) c.end-cell-end.ensures.end c.loop-cell.auto.cell _ c.loop-cell.invariant c.loop-cell-test.true

pub write-requires : goal.write-requires
unfolding given_plan
write-requires g c =
    let w = c.args.self.now in
    let is = subst IsGiven c.self.view_is c.self.invariant in
    run-write w is c.args.task c.requires.task _ c.requires.begins (c.inputs.result + c.from.result) c.loop-cell.cell _ (omega (arith, c.inputs.ensures, c.from.ensures, ap (λ (v : GivenValue). v.graph.inputs) c.self.view_is)) c.end-cell-end.ensures.end c.loop-cell.auto.cell _ c.loop-cell.invariant c.loop-cell-test.true
    c.outcome.result c.outcome.ensures

pub loop-cell-preserved : goal.loop-cell-preserved
unfolding given_plan
loop-cell-preserved g c =
    let w = c.args.self.now in
    let is = subst IsGiven c.self.view_is c.self.invariant in
    run-more w is c.args.task c.requires.task _ c.requires.begins (c.inputs.result + c.from.result) c.loop-cell.cell _ (omega (arith, c.inputs.ensures, c.from.ensures, ap (λ (v : GivenValue). v.graph.inputs) c.self.view_is)) c.end-cell-end.ensures.end c.loop-cell.auto.cell _ c.loop-cell.invariant c.loop-cell-test.true
    c.outcome.result _ c.outcome.ensures c.write.ensures

pub returns-clause-written : goal.returns-clause-written
unfolding given_plan
returns-clause-written g c =
    let w = c.args.self.now in
    let is = subst IsGiven c.self.view_is c.self.invariant in
    run-over w is c.args.task c.requires.task _ c.requires.begins (c.inputs.result + c.from.result) c.loop-cell.cell _ (omega (arith, c.inputs.ensures, c.from.ensures, ap (λ (v : GivenValue). v.graph.inputs) c.self.view_is)) c.end-cell-end.ensures.end c.loop-cell.auto.cell _ c.loop-cell.invariant c.loop-cell-test.false
