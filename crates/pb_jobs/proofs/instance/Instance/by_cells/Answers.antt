use Rattle.std.proofs.Common.{refl}
use Rattle.pb_eval.proofs.HeldLemmas.{told_views}
use Rattle.pb_jobs.proofs.BlockLemmas.{single}
use Rattle.pb_jobs.proofs.FirstCellLemmas.{told_first}
use Rattle.pb_jobs.proofs.GiveLemmas.{outcome_over, outcome_told, reads_told}
use Rattle.pb_jobs.proofs.InstanceLemmas.{can_run}
use Rattle.pb_jobs.proofs.instance.Instance.by_cells.Goals as goal

pub run_terms-requires-clause-told : goal.run_terms-requires-clause-told
run_terms-requires-clause-told g c =
    let can = c.requires.can in
    let from = c.requires.from in
    let s = from.reads can.rule can.there in
    let reads = reads_told c.args.self.now c.requires.ready c.args.rule c.args.x c.args.y (g.C.CellReader.turn c.args.port.now) can can.rule.reads refl s.windows s.are c.args.self.now.views refl from.views s.shown can.rule can.there in
    told_first (g.C.CellReader.turn c.args.port.now) c.args.cells.now from.views from.begin (told_views (g.C.CellReader.turn c.args.port.now) from.views reads.small reads.told)

pub returns-clause-outcome : goal.returns-clause-outcome
returns-clause-outcome g c =
    let v = c.args.self.now in
    let can = c.requires.can in
    let from = c.requires.from in
    let terms = c.requires.terms in
    let s = from.reads can.rule can.there in
    let reads = reads_told v c.requires.ready c.args.rule c.args.x c.args.y _ can can.rule.reads refl s.windows s.are v.views refl from.views s.shown in
    outcome_told v c.requires.ready c.args.rule c.args.x c.args.y _ can can.rule.reads refl s.windows s.are v.views refl from.views s.shown c.run_terms.result
    (outcome_over v c.requires.ready c.args.rule c.args.x c.args.y _ can v.program refl c.transform_number.result c.transform_number.ensures v.sizes refl from.views c.run_terms.result
    (λ r at. c.run_terms.ensures.outcome _ v.sizes r terms.formula from.views (can_run v c.requires.ready c.args.rule r at (single r.kind (c.requires.one r at))) (c.requires.one r at) (terms.is r at) terms.stand from.begin (reads r at)))
