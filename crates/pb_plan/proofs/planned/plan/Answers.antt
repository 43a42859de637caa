use Rattle.std.proofs.Common.{rules, ◌≡◌, ◌∙◌, ◌⊎◌, ap, inl, inr, subst, sym, ⊎_elim}
use Rattle.pb_program.specs.Transforms.{ProgValue}
use Rattle.pb_check.specs.Ranked.{OfTransform}
use Rattle.pb_plan.specs.Laid.{IsLaid, LaidValue}
use Rattle.pb_plan.specs.Planned.{IsTooLarge}
use Rattle.pb_plan.specs.declared.refusal.PlanRefusal.TheVariants.{Memory}
use Rattle.pb_plan.proofs.LaidLemmas.{Known, known}
use Rattle.pb_plan.proofs.ReadyLemmas.{large_known, planned_known, ready_known}
use Rattle.pb_plan.proofs.planned.plan.Goals as goal

first : (c : goal.After-deref-2) → Known c.args.a.now c.args.c.now c.args.t c.args.s.now c.index-transform.result.now c.index-analyses-t.result
first c = known c.args.a.now c.prog.ensures.accepted c.args.c.now c.args.t c.args.s.now c.requires.valid c.requires.sizes c.requires.room c.behind-a.inside.transforms.items (ap (λ (p : ProgValue). p.transforms) (c.behind-a.view_is ∙ c.prog.ensures.program)) c.index-transform.result.now c.index-transform.ensures c.analyses.result.now c.analyses.ensures c.index-analyses-t.result c.index-analyses-t.is

refused : (c : goal.After-drop-frame-inside-in_err-graph-3) → Known c.args.a.now c.args.c.now c.args.t c.args.s.now c.index-transform.result.now c.index-analyses-t.result
refused c = known c.args.a.now c.prog.ensures.accepted c.args.c.now c.args.t c.args.s.now c.requires.valid c.requires.sizes c.requires.room c.behind-a.inside.transforms.items (ap (λ (p : ProgValue). p.transforms) (c.behind-a.view_is ∙ c.prog.ensures.program)) c.index-transform.result.now c.index-transform.ensures c.analyses.result.now c.analyses.ensures c.index-analyses-t.result c.index-analyses-t.is

last : (c : goal.In_ok-graph) → Known c.args.a.now c.args.c.now c.args.t c.args.s.now c.index-transform.result.now c.index-analyses-t.result
last c = known c.args.a.now c.prog.ensures.accepted c.args.c.now c.args.t c.args.s.now c.requires.valid c.requires.sizes c.requires.room c.behind-a.inside.transforms.items (ap (λ (p : ProgValue). p.transforms) (c.behind-a.view_is ∙ c.prog.ensures.program)) c.index-transform.result.now c.index-transform.ensures c.analyses.result.now c.analyses.ensures c.index-analyses-t.result c.index-analyses-t.is

pub graph_of-requires : goal.graph_of-requires
graph_of-requires c =
    let l : LaidValue = record { frame = c.frame.inside.frame; views = c.frame.inside.views.items; places = c.frame.inside.places.items } in
    let laid = subst (λ (l : LaidValue). OfTransform c.args.a.now c.args.t (λ transform found. IsLaid c.args.c.now c.args.t c.args.s.now c.args.grain transform found l)) (sym c.frame.view_is) c.in_ok-frame.ensures in
    record { ready = ready_known c.args.a.now c.prog.ensures.accepted c.args.c.now c.args.t c.args.s.now c.args.grain c.index-transform.result.now c.index-analyses-t.result (first c) l laid c.nodes-nodes.result.now c.deref.result.now c.deref-2.result.now c.nodes-nodes.ensures c.deref.ensures.value c.deref-2.ensures.value }

pub returns-in_err-graph-clause-refused : goal.returns-in_err-graph-clause-refused
returns-in_err-graph-clause-refused c =
    let l : LaidValue = record { frame = c.frame.inside.frame; views = c.frame.inside.views.items; places = c.frame.inside.places.items } in
    let laid = subst (λ (l : LaidValue). OfTransform c.args.a.now c.args.t (λ transform found. IsLaid c.args.c.now c.args.t c.args.s.now c.args.grain transform found l)) (sym c.frame.view_is) c.in_ok-frame.ensures in
    let e = c.in_err-graph.field-0.0 in
    let told : (e ≡ Memory) ⊎ OfTransform c.args.a.now c.args.t (λ transform found. IsTooLarge c.args.c.now c.args.t c.args.s.now c.args.grain transform found e) = ⊎_elim (λ none. inl none) (λ many. inr (large_known c.args.a.now c.prog.ensures.accepted c.args.c.now c.args.t c.args.s.now c.args.grain c.index-transform.result.now c.index-analyses-t.result (refused c) l laid c.nodes-nodes.result.now c.deref.result.now c.deref-2.result.now c.nodes-nodes.ensures c.deref.ensures.value c.deref-2.ensures.value e many)) c.in_err-graph.ensures.refused in
    search (rules, told, c.from_residual-in_err-graph.ensures)

pub returns-clause-found : goal.returns-clause-found
returns-clause-found c =
    let l : LaidValue = record { frame = c.frame.inside.frame; views = c.frame.inside.views.items; places = c.frame.inside.places.items } in
    let laid = subst (λ (l : LaidValue). OfTransform c.args.a.now c.args.t (λ transform found. IsLaid c.args.c.now c.args.t c.args.s.now c.args.grain transform found l)) (sym c.frame.view_is) c.in_ok-frame.ensures in
    let made = c.in_ok-graph.ensures in
    planned_known c.args.a.now c.prog.ensures.accepted c.args.c.now c.args.t c.args.s.now c.args.grain c.index-transform.result.now c.index-analyses-t.result (last c) l laid c.nodes-nodes.result.now c.deref.result.now c.deref-2.result.now c.nodes-nodes.ensures c.deref.ensures.value c.deref-2.ensures.value
    c.in_ok-graph.graph made.tasks made.graph made.within
