-- What makes the tasks of an instance that is laid out can be called.
use Rattle.std.proofs.Common.{◌≡◌, ◌∙◌, refl, sym, ap, subst, ℕ, ◌-◌, ◌<◌, List, length, map, get_or, slice_get, take, Some, arith}
use Rattle.std.specs.List.{All, Contains}
use Rattle.std.specs.Option.{option_map_or}
use Rattle.std.proofs.lemmas.List.{get_or-take, length-take-le}
use Rattle.std.proofs.lemmas.Option.{slice_get-get_or, slice_get_within}
use Rattle.pb_linear.specs.Sizes.{sizes_of}
use Rattle.pb_linear.specs.declared.sizes.Sizes.{Sizes}
use Rattle.pb_values.specs.declared.shape.Shape.{Shape}
use Rattle.pb_values.specs.declared.view.View.{View}
use Rattle.pb_graph.specs.Nodes.{NodeValue}
use Rattle.pb_program.specs.Configs.{ConfigValue, IsValid}
use Rattle.pb_program.specs.Transforms.{TransformValue}
use Rattle.pb_program.specs.Trees.{ProgTransform, bare_transform}
use Rattle.pb_program.specs.WellFormed.{IsTransform}
use Rattle.pb_region.proofs.SmallLemmas.{at_place}
use Rattle.pb_base.proofs.ListLemmas.{at_in, in_at, map_in}
use Rattle.pb_model.specs.Cells.{Cell}
use Rattle.pb_check.specs.Accepting.{AcceptedValue, IsAccepted}
use Rattle.pb_check.specs.Orders.{AnalysisValue}
use Rattle.pb_check.specs.Ranked.{OfTransform}
use Rattle.pb_check.proofs.FirstLemmas.{all_at}
use Rattle.pb_frame.specs.Choices.{IsInstance}
use Rattle.pb_frame.specs.Frames.{FrameValue, JobValue}
use Rattle.pb_frame.specs.declared.part.FramePart.{FramePart}
use Rattle.pb_frame.proofs.FoundLemmas.{of_these, said_of}
use Rattle.pb_frame.proofs.PartLemmas.{top_of}
use Rattle.pb_links.specs.Spots.{AllWithin, IsWithin, PlacesValue}
use Rattle.pb_links.specs.declared.places.Spot.{Spot}
use Rattle.pb_taskgraph.specs.Graphs.{GraphValue}
use Rattle.pb_plan.specs.Boxes.{places_of, spot_of}
use Rattle.pb_plan.specs.Made.{IsMadeBy, jobs_for}
use Rattle.pb_plan.proofs.BeforeLemmas.{home, node_of, some_places}
use Rattle.pb_plan.proofs.MadeLemmas.{made_cell}
use Rattle.pb_views.specs.Layouts.{AreInARow, HasShortSides}
use Rattle.pb_plan.specs.Laid.{HasRoom, IsLaid, LaidValue}
use Rattle.pb_plan.specs.Planned.{IsPlanned, IsReady, IsTooLarge, IsTooMany}
use Rattle.pb_plan.specs.Tasks.{AreTasks, IsWithinLimits, LiesInView, graph_of}
use Rattle.pb_plan.proofs.GraphLemmas.{is_graph, numbered}
use Rattle.pb_plan.proofs.LaidLemmas.{Known, jobs_are}
use Rattle.pb_plan.specs.declared.refusal.PlanRefusal.{PlanRefusal}
use Rattle.pb_plan.proofs.NumberLemmas.{whole_at}

each_of : {A : Type 0} (P : A → Type 0) (xs : List A) → ((x : A) → Contains xs x → P x) → All P xs
each_of P xs f k d below = f (get_or xs k d) (in_at xs k (get_or xs k d) (slice_get-get_or xs k d below))

at_each : {A : Type 0} (P : A → Type 0) (xs : List A) → All P xs → (x : A) → Contains xs x → P x
at_each P xs h x c = let k = at_in xs x c in all_at P xs k.0 x h k.1

-- ---- the places of jobs are of matrices that are there
module _ (t : ProgTransform) (sizes : List ℕ) where
  abbrev IsOf : Spot → Type 0
  IsOf = IsWithin (length t.matrices)

module _ (config : ConfigValue) (number : ℕ) (t : ProgTransform) (a : AnalysisValue) (sizes : List ℕ) (grain : ℕ) (i : IsInstance number t a sizes) (valid : IsValid i.program config) (views : List View) (row : AreInARow 0 sizes t.matrices views) where
  abbrev pub jobs : List JobValue
  jobs = jobs_for config number t a sizes grain

  -- each part of a job lies in the view of its matrix
  lies : (j : ℕ) (job : JobValue) → slice_get jobs j ≡ Some job → (part : FramePart) → Contains job.parts part → LiesInView t a.nodes views part
  lies j job e part h =
      let own = home config number t a sizes grain i valid j job e part h in
      let some = some_places config number t a sizes grain i valid part own in
      let f = node_of config number t a sizes grain i valid part own in
      let c : Cell = record { matrix = f.0.matrix; x = part.rect.x1 - 1; y = part.rect.y1 - 1 } in
      let k = at_in job.parts part h in
      let made : IsMadeBy jobs a.nodes c j k.0 = record { job = job; is = e; part = part; has = k.1; holds = record { node = f.0; there = f.1; matrix = refl; place = record { left = omega (arith, some.0); right = omega (arith, some.0); low = omega (arith, some.1); high = omega (arith, some.1) } } } in
      let at = (numbered config number t a sizes grain i valid views row c (made_cell config number t a sizes grain i c j k.0 made)).1 in
      let shape = (whole_at sizes 0 t.matrices views row f.0.matrix at.decl at.view at.there at.at).shape in
      record {
        node = f.0;
        there = f.1;
        decl = at.decl;
        declared = at.there;
        view = at.view;
        at = at.at;
        fits = record {
          across = omega (arith, some.0);
          down = omega (arith, some.1);
          wide = omega (arith, some.0, at.on_x, ap (λ (s : Shape). s.w) shape);
          tall = omega (arith, some.1, at.on_y, ap (λ (s : Shape). s.h) shape);
        };
      }

  lie : All (λ (job : JobValue). All (LiesInView t a.nodes views) job.parts) jobs
  lie = each_of (λ (job : JobValue). All (LiesInView t a.nodes views) job.parts) jobs (λ job h. let j = at_in jobs job h in each_of (LiesInView t a.nodes views) job.parts (λ part p. lies j.0 job j.1 part p))

  module _ (short : All (HasShortSides sizes) t.matrices) where
    job_within : (job : JobValue) → Contains jobs job → AllWithin (length t.matrices) (places_of t a.nodes sizes job)
    job_within job h =
        let j = at_in jobs job h in
        each_of (IsOf t sizes) (map (spot_of a.nodes) job.parts) (λ s c.
        let part = map_in (spot_of a.nodes) job.parts s c in
        let l = lies j.0 job j.1 part.0 part.1 in
        omega (arith, slice_get_within t.matrices l.node.matrix l.decl l.declared, ap (λ o. option_map_or (λ (n : NodeValue). n.matrix) o 0) l.there, ap (λ (q : Spot). q.base) part.2))

    within : All (AllWithin (length t.matrices)) (map (places_of t a.nodes sizes) jobs)
    within = each_of (AllWithin (length t.matrices)) (map (places_of t a.nodes sizes) jobs) (λ p h. let job = map_in (places_of t a.nodes sizes) jobs p h in subst (AllWithin (length t.matrices)) job.2 (job_within job.0 job.1))

-- ---- an instance that is laid out
module _ (config : ConfigValue) (number : ℕ) (t : ProgTransform) (a : AnalysisValue) (s : Sizes) (grain : ℕ) (l : LaidValue) (is : IsLaid config number s grain t a l) where
  own_jobs : l.frame.jobs ≡ jobs_for config number t a (sizes_of s) grain
  own_jobs = jobs_are config number t a s grain l.frame is.sizes is.frame

  own_places : l.places ≡ map (places_of t a.nodes (sizes_of s)) (jobs_for config number t a (sizes_of s) grain)
  own_places = is.places ∙ ap (map (places_of t a.nodes (sizes_of s))) own_jobs

  pub too_large : (e : PlanRefusal) → IsTooMany l.frame.jobs l.places e → IsTooLarge config number s grain t a e
  too_large e h = subst (λ (jobs : List JobValue). IsTooMany jobs (map (places_of t a.nodes (sizes_of s)) (jobs_for config number t a (sizes_of s) grain)) e) own_jobs (subst (λ (ps : List PlacesValue). IsTooMany l.frame.jobs ps e) own_places h)

  module _ (i : IsInstance number t a (sizes_of s)) (valid : IsValid i.program config) (room : HasRoom (sizes_of s) t) where
    fits : IsTransform (length i.program) t
    fits = at_place (IsTransform (length i.program)) i.program number t i.well_formed.transforms i.there

    ready_at : (z : Sizes) → z ≡ s → IsReady t a.nodes (record { sizes = z; parts = l.frame.parts; blocks = l.frame.blocks; wides = l.frame.wides; jobs = l.frame.jobs }) l.views l.places
    ready_at z same = subst (λ y. IsReady t a.nodes (record { sizes = y; parts = l.frame.parts; blocks = l.frame.blocks; wides = l.frame.wides; jobs = l.frame.jobs }) l.views l.places) (sym same) (record {
      sizes = top_of number t a s i;
      room = room;
      few = fits.few_matrices;
      inputs = omega (arith, fits.parts);
      are_places = is.places;
      bases = subst (All (AllWithin (length t.matrices))) (sym own_places) (within config number t a (sizes_of s) grain i valid l.views is.row room.sides);
      parts = subst (λ (jobs : List JobValue). All (λ (job : JobValue). All (LiesInView t a.nodes l.views) job.parts) jobs) (sym own_jobs) (lie config number t a (sizes_of s) grain i valid l.views is.row);
      graph = λ tasks are limits. is_graph config number t a (sizes_of s) grain i valid l.views is.row tasks (subst (λ (jobs : List JobValue). AreTasks t a.nodes (sizes_of s) l.views jobs tasks) own_jobs are) (subst (IsWithinLimits t a.nodes (sizes_of s)) own_jobs limits);
    })

    pub ready : IsReady t a.nodes l.frame l.views l.places
    ready = ready_at l.frame.sizes is.sizes

-- the matrices that are given have short sides, as all have
pub given_short : (t : ProgTransform) (nodes : List NodeValue) (f : FrameValue) (views : List View) (places : List PlacesValue) → IsReady t nodes f views places → All (HasShortSides (sizes_of f.sizes)) (take t.inputs t.matrices)
given_short t nodes f views places r k d below =
    let inside : k < t.inputs = omega (arith, below, length-take-le t.inputs t.matrices r.inputs) in
    subst (HasShortSides (sizes_of f.sizes)) (sym (get_or-take t.inputs t.matrices k d inside)) (r.room.sides k d (omega (arith, inside, r.inputs)))

-- ---- of an accepted program
module _ (v : AcceptedValue) (accepted : IsAccepted v) (config : ConfigValue) (number : ℕ) (s : Sizes) (grain : ℕ) (x : TransformValue) (a : AnalysisValue) (k : Known v config number s x a) (l : LaidValue) (laid : OfTransform v number (λ transform found. IsLaid config number s grain transform found l)) where
  abbrev t : ProgTransform
  t = bare_transform x

  is_laid : IsLaid config number s grain t a l
  is_laid = said_of v accepted number t a k.there k.found (λ transform found. IsLaid config number s grain transform found l) laid

  module _ (nodes : List NodeValue) (views : List View) (places : List PlacesValue) (are : nodes ≡ a.nodes) (seen : views ≡ l.views) (made : places ≡ l.places) where
    pub ready_known : IsReady t nodes l.frame views places
    ready_known =
        subst (λ ns. IsReady t ns l.frame views places) (sym are) (subst (λ vs. IsReady t a.nodes l.frame vs places) (sym seen) (subst (IsReady t a.nodes l.frame l.views) (sym made) (ready config number t a s grain l is_laid k.instance k.valid k.room)))

    pub large_known : (e : PlanRefusal) → IsTooMany l.frame.jobs places e → OfTransform v number (λ transform found. IsTooLarge config number s grain transform found e)
    large_known e h =
        of_these v accepted number t a k.there k.found (λ transform found. IsTooLarge config number s grain transform found e) (too_large config number t a s grain l is_laid e (subst (λ ps. IsTooMany l.frame.jobs ps e) made h))

    pub planned_known : (g : GraphValue) → AreTasks t nodes (sizes_of l.frame.sizes) views l.frame.jobs g.tasks → g ≡ graph_of t (sizes_of l.frame.sizes) g.tasks → IsWithinLimits t nodes (sizes_of l.frame.sizes) l.frame.jobs
        → OfTransform v number (λ transform found. IsPlanned config number s grain transform found (record { laid = l; graph = g }))
    planned_known g tasks graph within = of_these v accepted number t a k.there k.found (λ transform found. IsPlanned config number s grain transform found (record { laid = l; graph = g })) (record {
      laid = is_laid;
      tasks = subst (λ (z : Sizes). AreTasks t a.nodes (sizes_of z) l.views l.frame.jobs g.tasks) is_laid.sizes (subst (λ ns. AreTasks t ns (sizes_of l.frame.sizes) l.views l.frame.jobs g.tasks) are (subst (λ vs. AreTasks t nodes (sizes_of l.frame.sizes) vs l.frame.jobs g.tasks) seen tasks));
      graph = graph ∙ ap (λ (z : Sizes). graph_of t (sizes_of z) g.tasks) is_laid.sizes;
      within = subst (λ (z : Sizes). IsWithinLimits t a.nodes (sizes_of z) l.frame.jobs) is_laid.sizes (subst (λ ns. IsWithinLimits t ns (sizes_of l.frame.sizes) l.frame.jobs) are within);
    })
