use Rattle.std.proofs.Common.{◌≡◌, ◌∙◌, ap, subst, map}
use Rattle.pb_linear.specs.Sizes.{sizes_of}
use Rattle.pb_program.specs.Transforms.{ProgValue}
use Rattle.pb_program.specs.Trees.{bare_prog, bare_transform}
use Rattle.pb_frame.specs.Frames.{FrameValue, JobValue}
use Rattle.pb_recursion.specs.Counts.{all_of, instance_count}
use Rattle.pb_runs.specs.Tallied.{job_tally}
use Rattle.pb_counts.specs.Gathered.{IsMore, whole}
use Rattle.pb_counts.specs.Sized.{Sized, counter_of}
use Rattle.pb_counts.specs.Tallies.{capped, counted}
use Rattle.pb_counts.proofs.PlaceLemmas.{can_call, gathered, of_this, some_found, top}
use Rattle.pb_counts.proofs.calls.gather.Goals as goal

pub own_count-requires-clause-sizes : goal.own_count-requires-clause-sizes
own_count-requires-clause-sizes c =
    let q = some_found c.args.a.now c.args.t _ c.requires.sizes in
    top c.args.a.now c.prog-prog.ensures.accepted c.args.t c.args.s.now c.requires.sizes c.prog.inside.transforms.items (ap (λ (p : ProgValue). p.transforms) (c.prog.view_is ∙ c.prog-prog.ensures.program)) c.index-transform.result.now c.index-transform.ensures q.0 q.1

pub own_count-requires-clause-transform : goal.own_count-requires-clause-transform
own_count-requires-clause-transform c =
    let q = some_found c.args.a.now c.args.t _ c.requires.sizes in
    can_call c.args.a.now c.prog-prog.ensures.accepted c.args.t c.args.s.now c.requires.sizes c.prog.inside.transforms.items (ap (λ (p : ProgValue). p.transforms) (c.prog.view_is ∙ c.prog-prog.ensures.program)) c.index-transform.result.now c.index-transform.ensures q.0 q.1

pub add_jobs-requires-clause-sizes : goal.add_jobs-requires-clause-sizes
add_jobs-requires-clause-sizes c =
    let q = some_found c.args.a.now c.args.t _ c.requires.sizes in
    top c.args.a.now c.prog-prog.ensures.accepted c.args.t c.args.s.now c.requires.sizes c.prog.inside.transforms.items (ap (λ (p : ProgValue). p.transforms) (c.prog.view_is ∙ c.prog-prog.ensures.program)) c.index-transform.result.now c.index-transform.ensures q.0 q.1

pub returns-clause-whole : goal.returns-clause-whole
returns-clause-whole c =
    let q = some_found c.args.a.now c.args.t _ c.requires.sizes in
    let v = c.args.a.now in
    let p = bare_prog v.program in
    let sizes = sizes_of c.args.s.now in
    of_this c.args.a.now c.prog-prog.ensures.accepted c.args.t c.args.s.now c.requires.sizes c.prog.inside.transforms.items (ap (λ (p : ProgValue). p.transforms) (c.prog.view_is ∙ c.prog-prog.ensures.program)) c.index-transform.result.now c.index-transform.ensures q.0 q.1
    (λ transform found. (f : Sized) → capped (whole f c.add_jobs.new.g) ≡ capped (instance_count p c.args.c.now (counter_of p c.args.deep f) c.args.t transform sizes))
    (gathered c.args.a.now c.prog-prog.ensures.accepted c.args.t c.args.s.now c.requires.sizes c.prog.inside.transforms.items (ap (λ (p : ProgValue). p.transforms) (c.prog.view_is ∙ c.prog-prog.ensures.program)) c.index-transform.result.now c.index-transform.ensures q.0 q.1 c.args.c.now c.requires.valid 64 c.in_ok-frame.frame c.in_ok-frame.ensures.sizes c.in_ok-frame.ensures.frame c.args.deep (counted c.own_count.result) c.own_count.ensures c.deref.result.now
    (c.deref.ensures.value ∙ ap (λ (f : FrameValue). f.jobs) c.frame-2.view_is) c.add_jobs.new.g c.new.result.items c.new.ensures.items
    (subst (λ (pr : ProgValue). IsMore (bare_prog pr) c.args.deep (record { tally = counted c.own_count.result; next = c.new.result.items }) c.add_jobs.new.g (λ d. all_of (map (λ (job : JobValue). job_tally (bare_prog pr) (bare_transform c.index-transform.result.now) sizes d job.rule) c.deref.result.now)))
    c.prog-prog.ensures.program c.in_ok-add_jobs.ensures.more))
