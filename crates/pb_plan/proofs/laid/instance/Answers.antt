use Rattle.std.proofs.Common.{◌≡◌, ◌∙◌, sym, ap, subst, List, map, arith}
use Rattle.std.specs.List.{All}
use Rattle.pb_linear.specs.Sizes.{sizes_of}
use Rattle.pb_values.specs.declared.view.View.{View}
use Rattle.pb_graph.specs.Nodes.{NodeValue}
use Rattle.pb_program.specs.Forms.{DeclValue}
use Rattle.pb_program.specs.Transforms.{ProgValue, TransformValue}
use Rattle.pb_program.specs.Trees.{bare_transform}
use Rattle.pb_frame.proofs.FoundLemmas.{of_these, said_of}
use Rattle.pb_frame.proofs.PartLemmas.{top_of}
use Rattle.pb_frame.specs.Frames.{FrameValue, IsFrame, JobValue}
use Rattle.pb_plan.specs.Boxes.{HasNodes, IsJob, places_of}
use Rattle.pb_views.specs.Layouts.{AreInARow, HasShortSides, cell_count}
use Rattle.pb_views.specs.Windows.{AreLaid}
use Rattle.pb_plan.specs.Laid.{IsLaid}
use Rattle.pb_plan.proofs.LaidLemmas.{Known, can_be_boxed, have_their_nodes, known, laid}
use Rattle.pb_plan.proofs.laid.instance.Goals as goal

first : (c : goal.After-deref) → Known c.args.a.now c.args.c.now c.args.t c.args.s.now c.index-transform.result.now c.index-analyses-t.result
first c = known c.args.a.now c.prog.ensures.accepted c.args.c.now c.args.t c.args.s.now c.requires.valid c.requires.sizes c.requires.room c.behind-a.inside.transforms.items (ap (λ (p : ProgValue). p.transforms) (c.behind-a.view_is ∙ c.prog.ensures.program)) c.index-transform.result.now c.index-transform.ensures c.analyses.result.now c.analyses.ensures c.index-analyses-t.result c.index-analyses-t.is

later : (c : goal.After-deref-3) → Known c.args.a.now c.args.c.now c.args.t c.args.s.now c.index-transform.result.now c.index-analyses-t.result
later c = known c.args.a.now c.prog.ensures.accepted c.args.c.now c.args.t c.args.s.now c.requires.valid c.requires.sizes c.requires.room c.behind-a.inside.transforms.items (ap (λ (p : ProgValue). p.transforms) (c.behind-a.view_is ∙ c.prog.ensures.program)) c.index-transform.result.now c.index-transform.ensures c.analyses.result.now c.analyses.ensures c.index-analyses-t.result c.index-analyses-t.is

last : (c : goal.In_ok-places) → Known c.args.a.now c.args.c.now c.args.t c.args.s.now c.index-transform.result.now c.index-analyses-t.result
last c = known c.args.a.now c.prog.ensures.accepted c.args.c.now c.args.t c.args.s.now c.requires.valid c.requires.sizes c.requires.room c.behind-a.inside.transforms.items (ap (λ (p : ProgValue). p.transforms) (c.behind-a.view_is ∙ c.prog.ensures.program)) c.index-transform.result.now c.index-transform.ensures c.analyses.result.now c.analyses.ensures c.index-analyses-t.result c.index-analyses-t.is

matrices : (c : goal.After-deref) → c.deref.result.now ≡ c.index-transform.result.now.matrices
matrices c = c.deref.ensures.value ∙ ap (λ (t : TransformValue). t.matrices) c.transform.view_is

pub lay_out-requires-clause-sizes : goal.lay_out-requires-clause-sizes
lay_out-requires-clause-sizes c = top_of c.args.t (bare_transform c.index-transform.result.now) c.index-analyses-t.result c.args.s.now (first c).instance

pub lay_out-requires-clause-sides : goal.lay_out-requires-clause-sides
lay_out-requires-clause-sides c = subst (λ (ds : List DeclValue). All (HasShortSides (sizes_of c.args.s.now)) ds) (sym (matrices c)) (first c).room.sides

pub lay_out-requires-clause-cells : goal.lay_out-requires-clause-cells
lay_out-requires-clause-cells c = omega (arith, (first c).room.cells, ap (cell_count (sizes_of c.args.s.now)) (matrices c))

pub places-requires-clause-sizes : goal.places-requires-clause-sizes
places-requires-clause-sizes c = top_of c.args.t (bare_transform c.index-transform.result.now) c.index-analyses-t.result c.args.s.now (later c).instance

pub places-requires-clause-laid : goal.places-requires-clause-laid
places-requires-clause-laid c =
    let row = subst (λ (ds : List DeclValue). AreInARow 0 (sizes_of c.args.s.now) ds c.in_ok-views.views.items) (c.deref.ensures.value ∙ ap (λ (t : TransformValue). t.matrices) c.transform.view_is) c.in_ok-views.ensures in
    subst (λ (vs : List View). AreLaid c.index-transform.result.now.matrices (sizes_of c.args.s.now) vs) (sym c.deref-2.ensures.value) (laid c.args.t (bare_transform c.index-transform.result.now) c.index-analyses-t.result (sizes_of c.args.s.now) (later c).instance c.in_ok-views.views.items row)

pub places-requires-clause-jobs : goal.places-requires-clause-jobs
places-requires-clause-jobs c = subst (λ (jobs : List JobValue). All (λ (job : JobValue). IsJob (bare_transform c.index-transform.result.now) (sizes_of c.args.s.now) job.rule job.parts) jobs) (sym (c.deref-3.ensures.value ∙ ap (λ (f : FrameValue). f.jobs) c.frame-2.view_is)) (can_be_boxed c.args.c.now c.args.t (bare_transform c.index-transform.result.now) c.index-analyses-t.result c.args.s.now c.args.grain (later c).instance (later c).valid (later c).room c.in_ok-frame.frame c.in_ok-frame.ensures.sizes (said_of c.args.a.now c.prog.ensures.accepted c.args.t (bare_transform c.index-transform.result.now) c.index-analyses-t.result (later c).there (later c).found (λ transform found. IsFrame c.args.c.now c.args.t transform found c.args.grain c.in_ok-frame.frame) c.in_ok-frame.ensures.frame))

pub places-requires-clause-nodes : goal.places-requires-clause-nodes
places-requires-clause-nodes c =
    let nodes : c.index-analyses-t.result.nodes ≡ c.nodes-nodes.result.now = sym c.nodes-nodes.ensures in
    subst (λ (jobs : List JobValue). All (λ (job : JobValue). HasNodes c.nodes-nodes.result.now job.parts) jobs) (sym (c.deref-3.ensures.value ∙ ap (λ (f : FrameValue). f.jobs) c.frame-2.view_is))
    (subst (λ (ns : List NodeValue). All (λ (job : JobValue). HasNodes ns job.parts) c.in_ok-frame.frame.jobs) nodes (have_their_nodes c.args.c.now c.args.t (bare_transform c.index-transform.result.now) c.index-analyses-t.result c.args.s.now c.args.grain (later c).instance (later c).valid (later c).room c.in_ok-frame.frame c.in_ok-frame.ensures.sizes (said_of c.args.a.now c.prog.ensures.accepted c.args.t (bare_transform c.index-transform.result.now) c.index-analyses-t.result (later c).there (later c).found (λ transform found. IsFrame c.args.c.now c.args.t transform found c.args.grain c.in_ok-frame.frame) c.in_ok-frame.ensures.frame)))

pub returns : goal.returns
returns c =
    of_these c.args.a.now c.prog.ensures.accepted c.args.t (bare_transform c.index-transform.result.now) c.index-analyses-t.result (last c).there (last c).found
    (λ transform found. IsLaid c.args.c.now c.args.t c.args.s.now c.args.grain transform found (record { frame = c.in_ok-frame.frame; views = c.in_ok-views.views.items; places = c.in_ok-places.places.items }))
    (record {
      sizes = c.in_ok-frame.ensures.sizes;
      frame = said_of c.args.a.now c.prog.ensures.accepted c.args.t (bare_transform c.index-transform.result.now) c.index-analyses-t.result (last c).there (last c).found (λ transform found. IsFrame c.args.c.now c.args.t transform found c.args.grain c.in_ok-frame.frame) c.in_ok-frame.ensures.frame;
      row = subst (λ (ds : List DeclValue). AreInARow 0 (sizes_of c.args.s.now) ds c.in_ok-views.views.items) (c.deref.ensures.value ∙ ap (λ (t : TransformValue). t.matrices) c.transform.view_is) c.in_ok-views.ensures;
      places = c.in_ok-places.ensures ∙ ap (λ (ns : List NodeValue). map (places_of (bare_transform c.index-transform.result.now) ns (sizes_of c.args.s.now)) c.deref-3.result.now) c.nodes-nodes.ensures ∙ ap (map (places_of (bare_transform c.index-transform.result.now) c.index-analyses-t.result.nodes (sizes_of c.args.s.now))) (c.deref-3.ensures.value ∙ ap (λ (f : FrameValue). f.jobs) c.frame-2.view_is);
    })
