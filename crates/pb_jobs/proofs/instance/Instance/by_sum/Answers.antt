use Rattle.std.proofs.Common.{◌∙◌, refl, sym, arith, IsTrue}
use Rattle.pb_values.specs.declared.outcome.Outcome.TheVariants.{Value}
use Rattle.pb_eval.proofs.HeldLemmas.{told_views}
use Rattle.pb_eval.proofs.SumLemmas.{told_at}
use Rattle.pb_jobs.proofs.BlockLemmas.{single}
use Rattle.pb_jobs.proofs.FirstCellLemmas.{told_first}
use Rattle.pb_jobs.proofs.GiveLemmas.{outcome_over, outcome_told, reads_told}
use Rattle.pb_jobs.proofs.InstanceLemmas.{can_run}
use Rattle.pb_jobs.proofs.ListLemmas.{some_else}
use Rattle.pb_jobs.proofs.instance.Instance.by_sum.Goals as goal

pub run_sum-requires-clause-few : goal.run_sum-requires-clause-few
run_sum-requires-clause-few g c =
    let known : IsTrue c.args.scratch.now.sum.is_known = sym c.is_known.ensures ∙ c.if-not-is_known.false in
    omega (arith, (c.requires.sum known).rest.count, c.requires.of_cells.few)

pub run_sum-requires-clause-told : goal.run_sum-requires-clause-told
run_sum-requires-clause-told g c =
    let known : IsTrue c.args.scratch.now.sum.is_known = sym c.is_known.ensures ∙ c.if-not-is_known.false in
    let turn = g.C.CellReader.turn c.args.port.now in
    let can = c.requires.can in
    let from = c.requires.from in
    let s = from.reads can.rule can.there in
    let reads = reads_told c.args.self.now c.requires.ready c.args.rule c.args.x c.args.y turn can can.rule.reads refl s.windows s.are c.args.self.now.views refl from.views s.shown can.rule can.there in
    told_at turn c.args.scratch.now.shown.cells.items c.args.place c.args.scratch.now.terms c.args.scratch.now.sum (c.requires.sum known) (told_first turn _ from.views from.begin (told_views turn from.views reads.small reads.told))

pub returns-clause-outcome : goal.returns-clause-outcome
returns-clause-outcome g c =
    let known : IsTrue c.args.scratch.now.sum.is_known = sym c.is_known.ensures ∙ c.if-not-is_known.false in
    let v = c.args.self.now in
    let can = c.requires.can in
    let from = c.requires.from in
    let terms = c.requires.terms in
    let s = from.reads can.rule can.there in
    let reads = reads_told v c.requires.ready c.args.rule c.args.x c.args.y _ can can.rule.reads refl s.windows s.are v.views refl from.views s.shown in
    some_else c.run_sum.result
    (λ n is. outcome_told v c.requires.ready c.args.rule c.args.x c.args.y _ can can.rule.reads refl s.windows s.are v.views refl from.views s.shown (Value n)
    (outcome_over v c.requires.ready c.args.rule c.args.x c.args.y _ can v.program refl v.number refl v.sizes refl from.views (Value n)
    (λ r at. is v.number c.args.rule c.args.x c.args.y c.args.scratch.now.shown.cells.items c.args.scratch.now.terms _ v.sizes r terms.formula from.views (c.requires.sum known) c.requires.of_cells.whole (can_run v c.requires.ready c.args.rule r at (single r.kind (c.requires.one r at))) (c.requires.one r at) (terms.is r at) terms.stand from.begin (reads r at))))
    c.run_sum.ensures.outcome
