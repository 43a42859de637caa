use Rattle.std.proofs.Common.{refl}
use Rattle.pb_eval.proofs.HeldLemmas.{told_views}
use Rattle.pb_jobs.proofs.BlockLemmas.{single}
use Rattle.pb_jobs.proofs.GiveLemmas.{outcome_over, outcome_told, reads_over, reads_told, sizes_top}
use Rattle.pb_jobs.proofs.InstanceLemmas.{can_run}
use Rattle.pb_jobs.proofs.instance.Instance.by_formula.Goals as goal

pub run_formula-requires-clause-sizes : goal.run_formula-requires-clause-sizes
run_formula-requires-clause-sizes g c = sizes_top c.args.self.now c.requires.ready c.args.rule c.args.x c.args.y _ c.requires.can c.args.self.now.program refl c.transform_number.result c.transform_number.ensures c.sizes.result.now c.sizes.ensures

pub run_formula-requires-clause-told : goal.run_formula-requires-clause-told
run_formula-requires-clause-told g c =
    let can = c.requires.can in
    let s = c.requires.shown can.rule can.there in
    let reads = reads_told c.args.self.now c.requires.ready c.args.rule c.args.x c.args.y _ can can.rule.reads refl s.windows s.are c.args.self.now.views refl c.args.views.now s.shown can.rule can.there in
    told_views _ _ reads.small reads.told

pub returns-clause-outcome : goal.returns-clause-outcome
returns-clause-outcome g c =
    let v = c.args.self.now in
    let can = c.requires.can in
    let s = c.requires.shown can.rule can.there in
    let reads = reads_over v c.requires.ready c.args.rule c.args.x c.args.y _ can v.program refl c.transform_number.result c.transform_number.ensures c.sizes.result.now c.sizes.ensures c.args.views.now
    (reads_told v c.requires.ready c.args.rule c.args.x c.args.y _ can can.rule.reads refl s.windows s.are v.views refl c.args.views.now s.shown) in
    outcome_told v c.requires.ready c.args.rule c.args.x c.args.y _ can can.rule.reads refl s.windows s.are v.views refl c.args.views.now s.shown c.run_formula.result
    (outcome_over v c.requires.ready c.args.rule c.args.x c.args.y _ can v.program refl c.transform_number.result c.transform_number.ensures c.sizes.result.now c.sizes.ensures c.args.views.now c.run_formula.result
    (λ r at. c.run_formula.ensures.outcome _ r (can_run v c.requires.ready c.args.rule r at (single r.kind (c.requires.one r at))) (c.requires.one r at) (c.requires.formula r at) (reads r at)))
