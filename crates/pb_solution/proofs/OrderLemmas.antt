-- A task writes its own cells in its order, each once.
use Rattle.std.proofs.Common.{◌≡◌, ◌∙◌, refl, sym, ap, subst, ℕ, zero, suc, List, [], ◌∷◌, map, slice_get, Some, None, Option}
use Rattle.std.specs.Prelude.{IsSomeAnd, slice_index_or}
use Rattle.std.specs.List.{Contains}
use Rattle.std.specs.Option.{option_map_or}
use Rattle.pb_linear.specs.declared.boxes.Step.{Step}
use Rattle.pb_values.specs.Views.{HasPlace}
use Rattle.pb_values.specs.declared.view.View.{View}
use Rattle.pb_graph.specs.Nodes.{NodeValue}
use Rattle.pb_program.specs.Configs.{ConfigValue, IsValid}
use Rattle.pb_program.specs.Trees.{ProgTransform}
use Rattle.pb_base.proofs.ListLemmas.{in_at, in_map, map_in}
use Rattle.pb_model.specs.Cells.{Cell}
use Rattle.pb_check.specs.Orders.{AnalysisValue}
use Rattle.pb_check.proofs.FirstLemmas.{some_same}
use Rattle.pb_frame.specs.Choices.{IsInstance}
use Rattle.pb_frame.specs.Frames.{JobValue}
use Rattle.pb_frame.specs.declared.part.FramePart.{FramePart}
use Rattle.pb_links.specs.declared.places.Spot.{Spot}
use Rattle.pb_taskgraph.specs.Graphs.{TaskValue, cells_of}
use Rattle.pb_plan.specs.Boxes.{spot_of}
use Rattle.pb_plan.specs.Made.{IsMadeBy, jobs_for}
use Rattle.pb_plan.proofs.BeforeLemmas.{home, node_of}
use Rattle.pb_plan.proofs.JobLemmas.{at_map, map_at}
use Rattle.pb_plan.proofs.MadeLemmas.{made_cell, made_once}
use Rattle.pb_views.specs.Layouts.{AreInARow}
use Rattle.pb_views.specs.Windows.{number_in}
use Rattle.pb_walk.specs.declared.stop.Stop.{Stop}
use Rattle.pb_walk.proofs.WalkLemmas.{in_walk, walk_in, walked_once}
use Rattle.pb_plan.specs.Tasks.{AreTasks}
use Rattle.pb_plan.proofs.GraphLemmas.{cell_from, cell_to, graph, numbered}
use Rattle.pb_plan.proofs.NumberLemmas.{IsNumbered, number_once}
use Rattle.pb_plan.proofs.OnceLemmas.{Once, once_map}
use Rattle.pb_solution.specs.Solutions.{job_order, own_order, steps_by, stop_cell, stops_of}

index_is : {A : Type 0} (xss : List (List A)) (u : ℕ) (xs : List A) → slice_get xss u ≡ Some xs → slice_index_or xss u [] ≡ xs
index_is [] u xs e = absurd (cc)
index_is (ys ∷ xss) zero xs e = some_same ys xs e
index_is (ys ∷ xss) (suc u) xs e = index_is xss u xs e

pub order_at : (a : AnalysisValue) (views : List View) (jobs : List JobValue) (j : ℕ) (job : JobValue) → slice_get jobs j ≡ Some job → own_order a.nodes a.order.layers views jobs j ≡ job_order a.nodes a.order.layers views job
unfolding own_order
order_at a views jobs j job e = index_is (map (job_order a.nodes a.order.layers views) jobs) j (job_order a.nodes a.order.layers views job) (at_map (job_order a.nodes a.order.layers views) jobs j job e)

module _ (config : ConfigValue) (number : ℕ) (t : ProgTransform) (a : AnalysisValue) (sizes : List ℕ) (grain : ℕ) (i : IsInstance number t a sizes) (valid : IsValid i.program config) where
  abbrev jobs : List JobValue
  jobs = jobs_for config number t a sizes grain

  module _ (j : ℕ) (job : JobValue) (e : slice_get jobs j ≡ Some job) where
    abbrev steps : List Step
    steps = steps_by a.order.layers job.layer job.rule

    abbrev pieces : List Spot
    pieces = map (spot_of a.nodes) job.parts

    -- ---- a stop is a place of a part
    base_is : (part : FramePart) (n : NodeValue) → slice_get a.nodes part.node ≡ Some n → (spot_of a.nodes part).base ≡ n.matrix
    base_is part n there = ap (λ o. option_map_or (λ (q : NodeValue). q.matrix) o 0) there

    pub stop_made : (s : Stop) → Contains (stops_of a.nodes a.order.layers job) s → IsMadeBy jobs a.nodes (stop_cell s) j s.piece
    stop_made s h = by (slice_get pieces s.piece) refl (walk_in steps pieces s h)
      where
        by : (o : Option Spot) → slice_get pieces s.piece ≡ o → IsSomeAnd o (λ (p : Spot). (s.base ≡ p.base) × HasPlace p.rect s.x s.y) → IsMadeBy jobs a.nodes (stop_cell s) j s.piece
        by None none is = absurd is
        by (Some p) some is =
            let part = map_at (spot_of a.nodes) job.parts s.piece p some in
            let node = node_of config number t a sizes grain i valid part.0 (home config number t a sizes grain i valid j job e part.0 (in_at job.parts s.piece part.0 part.1)) in
            record {
              job = job;
              is = e;
              part = part.0;
              has = part.1;
              holds = record {
                node = node.0;
                there = node.1;
                matrix = sym (base_is part.0 node.0 node.1) ∙ ap (λ (q : Spot). q.base) part.2 ∙ sym is.0;
                place = subst (λ (q : Spot). HasPlace q.rect s.x s.y) (sym part.2) is.1;
              };
            }

    -- a cell that the job makes is a stop
    pub made_stop : (c : Cell) (k : ℕ) → IsMadeBy jobs a.nodes c j k → Contains (stops_of a.nodes a.order.layers job) (record { piece = k; base = c.matrix; x = c.x; y = c.y })
    made_stop c k m =
        let same : m.job ≡ job = some_same m.job job (sym m.is ∙ e) in
        let has : slice_get job.parts k ≡ Some m.part = ap (λ (q : JobValue). slice_get q.parts k) (sym same) ∙ m.has in
        in_walk steps pieces (record { piece = k; base = c.matrix; x = c.x; y = c.y })
        (subst (λ o. IsSomeAnd o (λ (p : Spot). (c.matrix ≡ p.base) × HasPlace p.rect c.x c.y)) (sym (at_map (spot_of a.nodes) job.parts k m.part has))
        (sym (base_is m.part m.holds.node m.holds.there ∙ m.holds.matrix), m.holds.place))

    abbrev stops : List Stop
    stops = stops_of a.nodes a.order.layers job

    -- two stops at one cell are one
    pub one_piece : (s r : Stop) → Contains stops s → Contains stops r → stop_cell s ≡ stop_cell r → s ≡ r
    one_piece s r hs hr same =
        let piece = (made_once config number t a sizes grain i (stop_cell r) j s.piece j r.piece (subst (λ (q : Cell). IsMadeBy jobs a.nodes q j s.piece) same (stop_made s hs)) (stop_made r hr)).1 in
        λ k. record { piece = piece k; base = (same k).matrix; x = (same k).x; y = (same k).y }

  -- ---- by number
  module _ (views : List View) (row : AreInARow 0 sizes t.matrices views) where
    abbrev pub IsAt : Cell → ℕ → Type 0
    IsAt c n = IsNumbered sizes 0 t.matrices views row c.matrix c.x c.y n

    pub number_for : (c : Cell) (n : ℕ) → IsAt c n → number_in views c ≡ n
    number_for c n is = rw is.at (sym is.is)

    module _ (j : ℕ) (job : JobValue) (e : slice_get jobs j ≡ Some job) where
      stop_number : (s : Stop) → Contains (stops j job e) s → IsAt (stop_cell s) (number_in views (stop_cell s))
      stop_number s h =
          let n = numbered config number t a sizes grain i valid views row (stop_cell s) (made_cell config number t a sizes grain i (stop_cell s) j s.piece (stop_made j job e s h)) in
          subst (IsAt (stop_cell s)) (sym (number_for (stop_cell s) n.0 n.1)) n.1

      -- two stops with one number are one
      one_stop : (s r : Stop) → Contains (stops j job e) s → Contains (stops j job e) r → number_in views (stop_cell s) ≡ number_in views (stop_cell r) → s ≡ r
      one_stop s r hs hr same =
          let c = stop_cell s in
          let d = stop_cell r in
          let cell = number_once sizes 0 t.matrices views row c.matrix c.x c.y d.matrix d.x d.y (number_in views d) (subst (IsAt c) same (stop_number s hs)) (stop_number r hr) in
          one_piece j job e s r hs hr (λ k. record { matrix = cell.0 k; x = cell.1 k; y = cell.2 k })

      pub own_once : Once (job_order a.nodes a.order.layers views job)
      own_once = once_map (λ (s : Stop). number_in views (stop_cell s)) (stops j job e) (λ k l s at_k at_l. walked_once (steps j job e) (pieces j job e) k l s at_k at_l) one_stop

      module _ (tasks : List TaskValue) (are : AreTasks t a.nodes sizes views jobs tasks) where
        pub own_listed : (n : ℕ) → Contains (job_order a.nodes a.order.layers views job) n → Contains (cells_of (graph config number t a sizes grain i valid views row tasks are) j) n
        own_listed n h =
            let s = map_in (λ (s : Stop). number_in views (stop_cell s)) (stops j job e) n h in
            cell_to config number t a sizes grain i valid views row tasks are (stop_cell s.0) j s.0.piece n (stop_made j job e s.0 s.1) (subst (IsAt (stop_cell s.0)) s.2 (stop_number s.0 s.1))

        pub listed_own : (n : ℕ) → Contains (cells_of (graph config number t a sizes grain i valid views row tasks are) j) n → Contains (job_order a.nodes a.order.layers views job) n
        listed_own n h =
            let f = cell_from config number t a sizes grain i valid views row tasks are j n h in
            let c = f.1.cell in
            subst (Contains (job_order a.nodes a.order.layers views job)) (number_for c n f.1.is_number)
            (in_map (λ (s : Stop). number_in views (stop_cell s)) (stops j job e) (record { piece = f.0; base = c.matrix; x = c.x; y = c.y }) (made_stop j job e c f.0 f.1.made))
