use Rattle.std.proofs.Common.{◌≡◌, ◌∙◌, ap, get_or, subst, sym}
use Rattle.pb_program.specs.Trees.{bare_prog}
use Rattle.pb_frame.proofs.FoundLemmas.{if_ok}
use Rattle.pb_steps.specs.Handed.{places_of}
use Rattle.pb_steps.specs.Values.{CopiedValue}
use Rattle.pb_run_graph.specs.Ready.{IsMadeFor}
use Rattle.pb_run_graph.proofs.MadeLemmas.{copy_made, job_made}
use Rattle.pb_run_graph.proofs.places.step_places.Goals as goal

pub returns-in-Job : goal.returns-in-Job
returns-in-Job c =
    let p = bare_prog c.args.a.now.program in
    if_ok c.job_in.result c.job_in.ensures (λ places made.
    subst (λ x. IsMadeFor p c.args.a.now.found c.args.instances.now (λ s q. q ≡ places_of s) x places) (sym c.in-Job.is)
    (job_made p c.args.a.now.found c.args.instances.now c.index-instances-instance.result c.in-Job.instance c.in-Job.job c.index-instances-instance.is places made))

pub returns-in-Copy : goal.returns-in-Copy
returns-in-Copy c =
    let p = bare_prog c.args.a.now.program in
    let v = c.index-instances-copied.result in
    if_ok c.copy_in.result c.copy_in.ensures (λ places made.
    subst (λ x. IsMadeFor p c.args.a.now.found c.args.instances.now (λ s q. q ≡ places_of s) x places) (sym c.in-Copy.is)
    (copy_made p c.args.a.now.found c.args.instances.now v c.in-Copy.copied (c.index-instances-copied.is ∙ ap (λ (q : CopiedValue). get_or c.args.instances.now q.instance v) c.copied.view_is) places made))
