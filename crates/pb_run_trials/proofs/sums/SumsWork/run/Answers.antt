use Rattle.std.proofs.Common.{◌∙◌, sym, subst, arith}
use Rattle.pb_taskgraph.proofs.TurnLemmas.{all-written, may-read_some, some-none}
use Rattle.pb_run_trials.specs.Sums.{AreSums, plan_of}
use Rattle.pb_run_trials.proofs.PlanLemmas.{own-length, reads, step-more, step-write}
use Rattle.pb_run_trials.proofs.sums.SumsWork.run.Goals as goal

pub loop-k-init : goal.loop-k-init
loop-k-init g c = sym (some-none (g.C.CellReader.turn c.args.port.now))

pub read-first-requires : goal.read-first-requires
read-first-requires g c =
    let w = c.args.self.now in
    let s = subst AreSums c.self.view_is c.self.invariant in
    may-read_some (plan_of w) c.args.task _ c.requires.begins c.loop-k.k _ c.loop-k.invariant _
    (reads w s c.args.task c.requires.task c.loop-k.k _ c.loop-k-test.true (omega (arith, c.from.ensures)) (omega (arith, c.from.ensures)))

pub read-second-requires : goal.read-second-requires
read-second-requires g c =
    let w = c.args.self.now in
    let s = subst AreSums c.self.view_is c.self.invariant in
    may-read_some (plan_of w) c.args.task _ c.requires.begins c.loop-k.k _ (c.read-first.ensures.stays ∙ c.loop-k.invariant) _
    (reads w s c.args.task c.requires.task c.loop-k.k _ c.loop-k-test.true (omega (arith, c.from.ensures)) (omega (arith, c.from.ensures)))

pub write-requires : goal.write-requires
write-requires g c =
    let w = c.args.self.now in
    let s = subst AreSums c.self.view_is c.self.invariant in
    step-write w s c.args.task c.requires.task _ c.requires.begins c.loop-k.k _ c.loop-k-test.true (omega (arith, c.from.ensures)) _ _ _ c.loop-k.invariant c.read-first.ensures.stays c.read-second.ensures.stays _ _ _ c.read-first.ensures.outcome c.read-second.ensures.outcome c.sum.ensures

pub loop-k-preserved : goal.loop-k-preserved
loop-k-preserved g c =
    let w = c.args.self.now in
    let s = subst AreSums c.self.view_is c.self.invariant in
    step-more w s c.args.task c.requires.task _ c.requires.begins c.loop-k.k _ c.loop-k-test.true (omega (arith, c.from.ensures)) _ _ _ c.loop-k.invariant c.read-first.ensures.stays c.read-second.ensures.stays _ _ _ c.read-first.ensures.outcome c.read-second.ensures.outcome c.sum.ensures _ c.write.ensures

pub returns-clause-written : goal.returns-clause-written
returns-clause-written g c =
    let w = c.args.self.now in
    let s = subst AreSums c.self.view_is c.self.invariant in
    all-written (plan_of w) c.args.task _ c.requires.begins c.loop-k.k _ c.loop-k.invariant (omega (arith, own-length w s c.args.task c.requires.task, c.loop-k-test.false))
