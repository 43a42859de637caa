use Rattle.std.proofs.Common.{◌≡◌, ◌∙◌, ap, slice_get, subst, sym}
use Rattle.std.specs.List.{All}
use Rattle.pb_program.specs.Trees.{bare_prog}
use Rattle.pb_frame.proofs.FoundLemmas.{if_ok}
use Rattle.pb_steps.specs.Values.{InstanceValue}
use Rattle.pb_run_graph.specs.Ready.{HasSeat}
use Rattle.pb_run_graph.proofs.MadeLemmas.{copied_same, has_seats}
use Rattle.pb_run_graph.proofs.places.copy_in.Goals as goal

pub copy_step-requires : goal.copy_step-requires
copy_step-requires c =
    let v = c.args.here.now in
    let parts = c.args.copied.now.parts in
    let r = c.requires in
    let nodes : c.nodes_at-nodes.result.now ≡ r.analysis.nodes = c.nodes_at-nodes.ensures r.analysis (ap (λ (q : InstanceValue). slice_get c.args.a.now.found q.transform) c.here.view_is ∙ r.is_found) in
    let seats : c.deref.result.now ≡ v.seats = c.deref.ensures.value ∙ ap (λ (q : InstanceValue). q.seats) c.here.view_is in
    subst (λ s. All (HasSeat c.nodes_at-nodes.result.now s) parts) (sym seats) (subst (λ n. All (HasSeat n v.seats) parts) (sym nodes) (has_seats r.transform.matrices r.analysis.nodes v.seats parts r.is))

pub returns : goal.returns
returns c =
    let v = c.args.here.now in
    if_ok c.copy_step.result c.copy_step.ensures (λ places e i is.
    e ∙ copied_same (bare_prog c.args.a.now.program) c.args.a.now.found v i is c.here.inside.transform (ap (λ (q : InstanceValue). q.transform) c.here.view_is) c.nodes_at-nodes.result.now c.nodes_at-nodes.ensures c.deref.result.now (c.deref.ensures.value ∙ ap (λ (q : InstanceValue). q.seats) c.here.view_is) c.args.copied.now)
