use Rattle.std.proofs.Common.{◌∙◌, ap, get_or, map, slice_get, subst, sym}
use Rattle.pb_frame.proofs.FoundLemmas.{if_ok}
use Rattle.pb_plan.specs.Boxes.{spot_of}
use Rattle.pb_steps.specs.Values.{CopiedValue, InstanceValue}
use Rattle.pb_run_work.specs.Holding.{CanBeCut}
use Rattle.pb_run_work.specs.Running.{ArePieces}
use Rattle.pb_run_work.proofs.PieceLemmas.{pieces_of_copy, pieces_of_job}
use Rattle.pb_run_work.proofs.pieces.step_pieces.Goals as goal

pub returns-in-Job : goal.returns-in-Job
returns-in-Job c =
    let a = c.args.a.now in
    let instances = c.args.instances.now in
    let v = c.index-instances-instance.result in
    let job = c.index.result.now in
    if_ok c.job_pieces.result c.job_pieces.ensures (λ q is.
    subst (λ x. ArePieces a instances x q) (sym c.in-Job.is)
    (pieces_of_job a instances c.in-Job.instance c.in-Job.job (subst (CanBeCut a instances) c.in-Job.is c.requires) v c.index-instances-instance.is c.nodes_at.result.now
    (λ found e. c.nodes_at.ensures found (ap (λ (x : InstanceValue). slice_get a.found x.transform) c.here.view_is ∙ e))
    job (c.index.ensures ∙ ap (λ (x : InstanceValue). get_or x.jobs c.in-Job.job job) c.here.view_is) q is))

pub returns-in_ok-spots_of-in-Copy : goal.returns-in_ok-spots_of-in-Copy
returns-in_ok-spots_of-in-Copy c =
    let a = c.args.a.now in
    let instances = c.args.instances.now in
    let v = c.index-instances-copied.result in
    let x = c.in-Copy.copied in
    subst (λ s. ArePieces a instances s (record { parts = c.in_ok-spots_of-in-Copy.field-0.items; rules = c.new.result.items })) (sym c.in-Copy.is)
    (pieces_of_copy a instances x (subst (CanBeCut a instances) c.in-Copy.is c.requires) v (c.index-instances-copied.is ∙ ap (λ (q : CopiedValue). get_or instances q.instance v) c.copied.view_is) c.nodes_at-in-Copy.result.now
    (λ found e. c.nodes_at-in-Copy.ensures found (ap (λ (z : InstanceValue). slice_get a.found z.transform) c.here-in-Copy.view_is ∙ e))
    (record { parts = c.in_ok-spots_of-in-Copy.field-0.items; rules = c.new.result.items })
    (c.in_ok-spots_of-in-Copy.ensures ∙ ap (λ parts. map (spot_of c.nodes_at-in-Copy.result.now) parts) (c.deref.ensures.value ∙ ap (λ (q : CopiedValue). q.parts) c.copied.view_is)))
