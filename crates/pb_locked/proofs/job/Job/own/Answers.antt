use Rattle.std.proofs.Common.{◌≡◌, ◌∙◌, ◌≤◌, ap, arith, get_or, subst}
use Rattle.std.specs.List.{Contains}
use Rattle.std.proofs.lemmas.Bool.Decides.{nat_tests}
use Rattle.pb_taskgraph.specs.Graphs.{GraphValue, cells_of}
use Rattle.pb_locked.proofs.JobLemmas.{job-below, job-others, job-own}
use Rattle.pb_locked.proofs.job.Job.own.Goals as goal

pub owner-requires-clause-below : goal.owner-requires-clause-below
owner-requires-clause-below g c =
    let below = job-below g.N.NamesWork.plan _ _ _ _ c.self.invariant c.args.self.now c.self.view_is c.args.cell c.requires in
    omega (arith, below, ap (λ (h : GraphValue). h.cells) c.graph-graph.ensures.graph)

pub returns-then-owner-self-clause-others : goal.returns-then-owner-self-clause-others
returns-then-owner-self-clause-others g c =
    job-others g.N.NamesWork.plan _ _ _ _ c.self.invariant c.args.self.now c.self.view_is c.args.cell c.owner.result c.requires (subst (λ (h : GraphValue). Contains (cells_of h c.owner.result) c.args.cell) c.graph-graph.ensures.graph c.owner.ensures.cell) (λ same. grind (arith, nat_tests))

pub returns-then-owner-self-clause-below : goal.returns-then-owner-self-clause-below
returns-then-owner-self-clause-below g c = job-below g.N.NamesWork.plan _ _ _ _ c.self.invariant c.args.self.now c.self.view_is c.args.cell c.requires

pub place-requires : goal.place-requires
place-requires g c = job-below g.N.NamesWork.plan _ _ _ _ c.self.invariant c.args.self.now c.self.view_is c.args.cell c.requires

pub returns-clause-below : goal.returns-clause-below
returns-clause-below g c = job-below g.N.NamesWork.plan _ _ _ _ c.self.invariant c.args.self.now c.self.view_is c.args.cell c.requires

pub returns-clause-own : goal.returns-clause-own
returns-clause-own g c =
    let has = subst (λ (h : GraphValue). Contains (cells_of h c.owner.result) c.args.cell) c.graph-graph.ensures.graph c.owner.ensures.cell in
    let same : c.owner.result ≡ c.self.inside.task = grind (arith, nat_tests) in
    let past : g.N.NamesWork.plan.graph.inputs ≤ c.args.cell = omega (arith, ap (λ (h : GraphValue). h.inputs) c.graph-graph.ensures.graph, c.inputs.ensures, c.if-cell-inputs.false) in
    (job-own g.N.NamesWork.plan _ _ _ _ c.self.invariant c.args.self.now c.self.view_is c.args.cell c.index.result.now c.requires past
    (subst (λ o. Contains (cells_of g.N.NamesWork.plan.graph o) c.args.cell) same has)
    (c.index.ensures ∙ ap (λ i. get_or c.self.inside.values.items i c.index.result.now) c.place.ensures)).1
