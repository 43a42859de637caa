use Rattle.std.proofs.Common.{◌∙◌, [], ap, get_or, List, subst, sym, ℕ}
use Rattle.pb_linear.specs.Sizes.{sizes_of}
use Rattle.pb_program.specs.Transforms.{ProgValue}
use Rattle.pb_program.specs.Trees.{bare_prog}
use Rattle.pb_links.specs.declared.places.Spot.{Spot}
use Rattle.pb_frame.specs.Frames.{JobValue}
use Rattle.pb_steps.specs.Values.{InstanceValue}
use Rattle.pb_jobs.specs.Rooms.{HasRoomForJob}
use Rattle.pb_run_work.specs.Running.{ArePieces, HasRoomForStep}
use Rattle.pb_run_work.specs.Seen.{PiecesValue}
use Rattle.pb_run_work.proofs.PieceLemmas.{room_of_job}
use Rattle.pb_run_work.proofs.pieces.step_rooms.Goals as goal

pub returns-in-Job : goal.returns-in-Job
returns-in-Job c =
    let a = c.args.a.now in
    let instances = c.args.instances.now in
    let rooms = c.job_rooms.result in
    let q = c.args.pieces.now in
    let job = c.index.result.now in
    let parts = c.deref.ensures.value ∙ ap (λ (z : PiecesValue). z.parts) c.pieces.view_is in
    let rules = c.deref-in-Job.ensures.value ∙ ap (λ (z : PiecesValue). z.rules) c.pieces.view_is in
    subst (λ x. HasRoomForStep a instances rooms x) (sym c.in-Job.is)
    (room_of_job a instances c.in-Job.instance c.in-Job.job q (subst (λ x. ArePieces a instances x q) c.in-Job.is c.requires.pieces) c.index-instances-instance.result c.index-instances-instance.is
    job (c.index.ensures ∙ ap (λ (x : InstanceValue). get_or x.jobs c.in-Job.job job) c.here.view_is) rooms
    (subst (λ (z : ProgValue × InstanceValue × List Spot × JobValue × List ℕ). HasRoomForJob (bare_prog z.0) z.1.transform (sizes_of z.1.sizes) rooms (record { parts = z.2; rule = z.3.rule; rules = z.4; steps = [] }))
    (λ i. (c.prog.ensures.program i, c.here.view_is i, parts i, c.behind-here.view_is i, rules i)) c.job_rooms.ensures))
