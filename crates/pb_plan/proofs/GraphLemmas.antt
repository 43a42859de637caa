-- The tasks of an instance are a graph.
use Rattle.std.proofs.Common.{◌≡◌, ◌∙◌, refl, sym, ap, subst, ⊎_elim, ℕ, zero, suc, ◌+◌, ◌-◌, ◌≤◌, ◌<◌, ℤ, pos, negsuc, ◌<ℤ◌, List, [], ◌∷◌, length, map, slice_get, Some, arith}
use Rattle.std.specs.Prelude.{slice_index_or}
use Rattle.std.specs.List.{Contains}
use Rattle.std.proofs.lemmas.Bool.{cases_lt}
use Rattle.std.proofs.lemmas.Int.{ints}
use Rattle.std.proofs.lemmas.List.{length-map}
use Rattle.std.proofs.lemmas.Option.{slice_get_within}
use Rattle.pb_linear.specs.Numbers.{exact_value}
use Rattle.pb_values.specs.Views.{cell_of, view_cells}
use Rattle.pb_values.specs.declared.shape.Shape.{Shape}
use Rattle.pb_values.specs.declared.view.View.{View}
use Rattle.pb_graph.specs.Nodes.{NodeValue}
use Rattle.pb_program.specs.Configs.{ConfigValue, IsValid}
use Rattle.pb_program.specs.Forms.{DeclValue}
use Rattle.pb_program.specs.Trees.{ProgTransform}
use Rattle.pb_base.proofs.ListLemmas.{at_in, flat_in, in_at, in_flat}
use Rattle.pb_model.specs.Cells.{Cell, natural}
use Rattle.pb_check.specs.Orders.{AnalysisValue}
use Rattle.pb_check.specs.Ranked.{IsMadeCell}
use Rattle.pb_check.proofs.FirstLemmas.{some_same}
use Rattle.pb_frame.specs.Choices.{IsInstance}
use Rattle.pb_frame.specs.Frames.{JobValue}
use Rattle.pb_frame.specs.declared.part.FramePart.{FramePart}
use Rattle.pb_links.specs.Links.{predecessors}
use Rattle.pb_links.specs.Spots.{PlacesValue}
use Rattle.pb_taskgraph.specs.Graphs.{EachOnce, GraphValue, IsGraph, IsPartition, TaskValue, before_of, cells_of, task_cells}
use Rattle.pb_taskgraph.specs.declared.task.Part.{Part}
use Rattle.pb_plan.specs.Boxes.{places_of}
use Rattle.pb_plan.specs.Made.{IsMadeBy, jobs_for}
use Rattle.pb_plan.proofs.BeforeLemmas.{stands_before}
use Rattle.pb_plan.proofs.JobLemmas.{at_map, map_at}
use Rattle.pb_plan.proofs.MadeLemmas.{made_by, made_cell, made_once}
use Rattle.pb_views.specs.Layouts.{AreInARow, cell_count, shape_of}
use Rattle.pb_plan.specs.Tasks.{AreTasks, IsPartFor, IsTaskFor, IsWithinLimits, graph_of}
use Rattle.pb_plan.proofs.LinkedLemmas.{HasLinksOf, at_zip, before_in as before_listed, in_index, in_view, index_is, is_linked, links_are, once_view, some_at, view_in, zip_at}
use Rattle.pb_plan.proofs.NumberLemmas.{IsNumbered, before, number_below, number_once, number_some, number_within, view_at}
use Rattle.pb_plan.proofs.OnceLemmas.{Once, once_each, once_flat}

module _ (config : ConfigValue) (number : ℕ) (t : ProgTransform) (a : AnalysisValue) (sizes : List ℕ) (grain : ℕ) (i : IsInstance number t a sizes) (valid : IsValid i.program config) (views : List View) (row : AreInARow 0 sizes t.matrices views) where
  abbrev pub jobs : List JobValue
  jobs = jobs_for config number t a sizes grain

  natural_above : (k : ℕ) (z : ℤ) → pos k <ℤ z → k < natural z
  natural_above k (pos m) h = omega (arith, ints, h)
  natural_above k (negsuc m) h = absurd (omega (arith, ints, h))

  -- each cell that is made has a number
  pub numbered : (c : Cell) → IsMadeCell t sizes c → (n : ℕ) × IsNumbered sizes 0 t.matrices views row c.matrix c.x c.y n
  numbered c made =
      let v = view_at sizes 0 t.matrices views row c.matrix made.cell.decl made.cell.there in
      (cell_of v.0 c.x c.y, record { decl = made.cell.decl; there = made.cell.there; view = v.0; at = v.1; on_x = natural_above c.x (exact_value made.cell.decl.w sizes) made.cell.before_x; on_y = natural_above c.y (exact_value made.cell.decl.h sizes) made.cell.before_y; is = refl })

  module _ (tasks : List TaskValue) (are : AreTasks t a.nodes sizes views jobs tasks) where
    abbrev pub graph : GraphValue
    graph = graph_of t sizes tasks

    -- a place of a part of a task is a cell of the job
    pub record FromPart (j k n : ℕ) : Type 0 where
      pub cell : Cell
      pub made : IsMadeBy jobs a.nodes cell j k
      pub is_number : IsNumbered sizes 0 t.matrices views row cell.matrix cell.x cell.y n

    abbrev from_part : (j : ℕ) (job : JobValue) (is : slice_get jobs j ≡ Some job) (k : ℕ) (from : FramePart) (has : slice_get job.parts k ≡ Some from) (part : Part) (p : IsPartFor t a.nodes views from part) (x y n : ℕ)
        → x < part.view.shape.w → y < part.view.shape.h → cell_of part.view x y ≡ n → FromPart j k n
    from_part j job is k from has part p x y n on_x on_y same =
        let wide : x < from.rect.x1 - from.rect.x0 = omega (arith, on_x, ap (λ (s : Shape). s.w) p.cells.shape) in
        let tall : y < from.rect.y1 - from.rect.y0 = omega (arith, on_y, ap (λ (s : Shape). s.h) p.cells.shape) in
        let c : Cell = record { matrix = p.node.matrix; x = from.rect.x0 + x; y = from.rect.y0 + y } in
        let made : IsMadeBy jobs a.nodes c j k = record { job = job; is = is; part = from; has = has; holds = record { node = p.node; there = p.there; matrix = refl; place = record { left = omega arith; right = omega (arith, wide); low = omega arith; high = omega (arith, tall) } } } in
        let cell = (made_cell config number t a sizes grain i c j k made).cell in
        let decl : cell.decl ≡ p.decl = some_same cell.decl p.decl (sym cell.there ∙ p.declared) in
        record {
          cell = c;
          made = made;
          is_number = record {
            decl = p.decl;
            there = p.declared;
            view = p.view;
            at = p.at;
            on_x = subst (λ (d : DeclValue). c.x < (shape_of sizes d).w) decl (natural_above c.x (exact_value cell.decl.w sizes) cell.before_x);
            on_y = subst (λ (d : DeclValue). c.y < (shape_of sizes d).h) decl (natural_above c.y (exact_value cell.decl.h sizes) cell.before_y);
            is = sym same ∙ p.cells.cells x y wide tall;
          };
        }

    pub cell_from : (j n : ℕ) → Contains (cells_of graph j) n → (k : ℕ) × FromPart j k n
    unfolding cells_of
    cell_from j n h =
        let l = in_index (map task_cells tasks) j n h in
        let task = map_at task_cells tasks j l.0 l.1 in
        let job = some_at jobs j (omega (arith, slice_get_within tasks j task.0 task.1, are.count)) in
        let is = are.each j job.0 task.0 job.1 task.1 in
        let in_part = flat_in (λ (part : Part). view_cells part.view) task.0.parts n (subst (λ (cs : List ℕ). Contains cs n) (sym task.2) l.2) in
        let k = at_in task.0.parts in_part.0 in_part.1 in
        let from = zip_at (IsPartFor t a.nodes views) job.0.parts task.0.parts is.parts k.0 in_part.0 k.1 in
        let place = in_view in_part.0.view n in_part.2 in
        (k.0, from_part j job.0 job.1 k.0 from.0 from.1 in_part.0 from.2 place.0 place.1 n place.2 place.3 place.4)

    task_at : (j : ℕ) (job : JobValue) → slice_get jobs j ≡ Some job → (task : TaskValue) × (slice_get tasks j ≡ Some task) × IsTaskFor t a.nodes sizes views jobs j job task
    task_at j job e =
        let task = some_at tasks j (omega (arith, slice_get_within jobs j job e, are.count)) in
        (task.0, task.1, are.each j job task.0 e task.1)

    cells_are : (j : ℕ) (task : TaskValue) → slice_get tasks j ≡ Some task → cells_of graph j ≡ task_cells task
    unfolding cells_of
    cells_are j task e = index_is (map task_cells tasks) j (task_cells task) (at_map task_cells tasks j task e)

    pub cell_to : (c : Cell) (j k n : ℕ) → IsMadeBy jobs a.nodes c j k → IsNumbered sizes 0 t.matrices views row c.matrix c.x c.y n → Contains (cells_of graph j) n
    cell_to c j k n m number =
        let task = task_at j m.job m.is in
        let part = at_zip (IsPartFor t a.nodes views) m.job.parts task.0.parts task.2.parts k m.part m.has in
        let p = part.2 in
        let place = m.holds.place in
        let node : p.node ≡ m.holds.node = some_same p.node m.holds.node (sym p.there ∙ m.holds.there) in
        let matrix : p.node.matrix ≡ c.matrix = ap (λ (q : NodeValue). q.matrix) node ∙ m.holds.matrix in
        let view : p.view ≡ number.view = some_same p.view number.view (sym p.at ∙ ap (slice_get views) matrix ∙ number.at) in
        let x = c.x - m.part.rect.x0 in
        let y = c.y - m.part.rect.y0 in
        let wide : x < m.part.rect.x1 - m.part.rect.x0 = omega (arith, place.left, place.right) in
        let tall : y < m.part.rect.y1 - m.part.rect.y0 = omega (arith, place.low, place.high) in
        let back_x : m.part.rect.x0 + x ≡ c.x = omega (arith, place.left) in
        let back_y : m.part.rect.y0 + y ≡ c.y = omega (arith, place.low) in
        let is : cell_of part.0.view x y ≡ n = p.cells.cells x y wide tall ∙ ap (λ u. cell_of p.view u (m.part.rect.y0 + y)) back_x ∙ ap (λ v. cell_of p.view c.x v) back_y ∙ ap (λ (v : View). cell_of v c.x c.y) view ∙ sym number.is in
        let there : Contains (view_cells part.0.view) (cell_of part.0.view x y) = view_in part.0.view x y (omega (arith, wide, ap (λ (s : Shape). s.w) p.cells.shape)) (omega (arith, tall, ap (λ (s : Shape). s.h) p.cells.shape)) in
        subst (λ (cs : List ℕ). Contains cs n) (sym (cells_are j task.0 task.1)) (in_flat (λ (q : Part). view_cells q.view) task.0.parts part.0 n (in_at task.0.parts k part.0 part.1) (subst (Contains (view_cells part.0.view)) is there))

    -- two numbers that are one are of one cell
    same_cell : (n : ℕ) (c d : Cell) → IsNumbered sizes 0 t.matrices views row c.matrix c.x c.y n → IsNumbered sizes 0 t.matrices views row d.matrix d.x d.y n → c ≡ d
    same_cell n c d p q = let e = number_once sizes 0 t.matrices views row c.matrix c.x c.y d.matrix d.x d.y n p q in λ i. record { matrix = e.0 i; x = e.1 i; y = e.2 i }

    pub one_task : (j l n : ℕ) → Contains (cells_of graph j) n → Contains (cells_of graph l) n → j ≡ l
    one_task j l n p q =
        let f = cell_from j n p in
        let g = cell_from l n q in
        let same = same_cell n f.1.cell g.1.cell f.1.is_number g.1.is_number in
        (made_once config number t a sizes grain i g.1.cell j f.0 l g.0 (subst (λ (c : Cell). IsMadeBy jobs a.nodes c j f.0) same f.1.made) g.1.made).0

    pub once_in : (j : ℕ) (task : TaskValue) → slice_get tasks j ≡ Some task → Once (task_cells task)
    once_in j task e =
        let job = some_at jobs j (omega (arith, slice_get_within tasks j task e, are.count)) in
        let is = are.each j job.0 task job.1 e in
        once_flat (λ (q : Part). view_cells q.view) task.parts
        (λ k part at.
        let from = zip_at (IsPartFor t a.nodes views) job.0.parts task.parts is.parts k part at in
        once_view part.view (λ x y u v on_x on_y on_u on_v same.
        let f = from_part j job.0 job.1 k from.0 from.1 part from.2 x y (cell_of part.view u v) on_x on_y same in
        let g = from_part j job.0 job.1 k from.0 from.1 part from.2 u v (cell_of part.view u v) on_u on_v refl in
        let e = number_once sizes 0 t.matrices views row f.cell.matrix f.cell.x f.cell.y g.cell.matrix g.cell.x g.cell.y (cell_of part.view u v) f.is_number g.is_number in
        (omega (arith, e.1), omega (arith, e.2))))
        (λ k l p q b at_p at_q in_p in_q.
        let from_p = zip_at (IsPartFor t a.nodes views) job.0.parts task.parts is.parts k p at_p in
        let from_q = zip_at (IsPartFor t a.nodes views) job.0.parts task.parts is.parts l q at_q in
        let place_p = in_view p.view b in_p in
        let place_q = in_view q.view b in_q in
        let f = from_part j job.0 job.1 k from_p.0 from_p.1 p from_p.2 place_p.0 place_p.1 b place_p.2 place_p.3 place_p.4 in
        let g = from_part j job.0 job.1 l from_q.0 from_q.1 q from_q.2 place_q.0 place_q.1 b place_q.2 place_q.3 place_q.4 in
        let same = same_cell b f.cell g.cell f.is_number g.is_number in
        (made_once config number t a sizes grain i g.cell j k j l (subst (λ (c : Cell). IsMadeBy jobs a.nodes c j k) same f.made) g.made).1)

    -- ---- all cells but the given ones
    cells_of_past : (j : ℕ) → length tasks ≤ j → cells_of graph j ≡ []
    unfolding cells_of
    cells_of_past j past = none (map task_cells tasks) j (omega (arith, past, length-map tasks task_cells))
      where
        none : (xss : List (List ℕ)) (u : ℕ) → length xss ≤ u → slice_index_or xss u [] ≡ []
        none [] u h = refl
        none (xs ∷ xss) zero h = absurd (omega (arith, h))
        none (xs ∷ xss) (suc u) h = none xss u (omega (arith, h))

    pub cells_once : (j : ℕ) → EachOnce (cells_of graph j)
    cells_once j = ⊎_elim
        (λ (here : j < length tasks). let task = some_at tasks j here in subst EachOnce (sym (cells_are j task.0 task.1)) (once_each (task_cells task.0) (once_in j task.0 task.1)))
        (λ (past : length tasks ≤ j). subst EachOnce (sym (cells_of_past j past)) (λ p q below_p below_q same. absurd (omega (arith, below_p))))
        (cases_lt j (length tasks))

    given_all : (m : ℕ) → before sizes t.matrices m ≤ cell_count sizes t.matrices
    given_all m = all t.matrices m
      where
        all : (ds : List DeclValue) (k : ℕ) → before sizes ds k ≤ cell_count sizes ds
        all ds zero = omega arith
        all [] (suc k) = omega arith
        all (d ∷ ds) (suc k) = omega (arith, all ds k)

    given_mono : (m n : ℕ) → m ≤ n → before sizes t.matrices m ≤ before sizes t.matrices n
    given_mono m n h = mono t.matrices m n h
      where
        mono : (ds : List DeclValue) (m n : ℕ) → m ≤ n → before sizes ds m ≤ before sizes ds n
        mono ds zero n h = omega arith
        mono [] (suc m) n h = omega arith
        mono (d ∷ ds) (suc m) zero h = absurd (omega (arith, h))
        mono (d ∷ ds) (suc m) (suc n) h = omega (arith, mono ds m n (omega (arith, h)))

    pub is_partition : IsPartition graph
    is_partition = record {
      inputs = given_all t.inputs;
      past = λ j n h.
          let f = cell_from j n h in
          let within = number_within sizes 0 t.matrices views row f.1.cell.matrix f.1.cell.x f.1.cell.y n f.1.is_number in
          let made = made_cell config number t a sizes grain i f.1.cell j f.0 f.1.made in
          (omega (arith, within.0, given_mono t.inputs f.1.cell.matrix made.made), omega (arith, number_below sizes 0 t.matrices views row f.1.cell.matrix f.1.cell.x f.1.cell.y n f.1.is_number));
      some = λ n late below.
          let m = number_some sizes 0 t.matrices views row n below in
          let c : Cell = record { matrix = m.0; x = m.1; y = m.2 } in
          let zero_less : 0 + n ≡ n = omega arith in
          let is = subst (λ k. IsNumbered sizes 0 t.matrices views row m.0 m.1 m.2 k) zero_less m.3 in
          let made = made_of m.0 m.1 m.2 n is late in
          let by = made_by config number t a sizes grain i valid c made in
          (by.0, omega (arith, slice_get_within jobs by.0 by.2.job by.2.is, are.count), cell_to c by.0 by.1 n by.2 is);
      one = λ j l n p q. one_task j l n p q;
      once = cells_once;
    }
      where
        below_natural : (k : ℕ) (z : ℤ) → k < natural z → pos k <ℤ z
        below_natural k (pos m) h = omega (arith, ints, h)
        below_natural k (negsuc m) h = absurd (omega (arith, h))

        made_of : (m x y n : ℕ) → IsNumbered sizes 0 t.matrices views row m x y n → before sizes t.matrices t.inputs ≤ n → IsMadeCell t sizes (record { matrix = m; x = x; y = y })
        made_of m x y n c late = record {
          cell = record { in_range = i.in_range; decl = c.decl; there = c.there; before_x = below_natural x (exact_value c.decl.w sizes) c.on_x; before_y = below_natural y (exact_value c.decl.h sizes) c.on_y };
          made = ⊎_elim
              (λ (less : m < t.inputs). absurd (omega (arith, late, (number_within sizes 0 t.matrices views row m x y n c).1, given_mono (m + 1) t.inputs (omega (arith, less)))))
              (λ (more : t.inputs ≤ m). more)
              (cases_lt m t.inputs);
        }

    -- ---- links
    abbrev places : List PlacesValue
    places = map (places_of t a.nodes sizes) jobs

    as_many : length places ≡ length tasks
    as_many = length-map jobs (places_of t a.nodes sizes) ∙ sym are.count

    links_of : (j : ℕ) (task : TaskValue) → slice_get tasks j ≡ Some task → HasLinksOf places j task
    links_of j task e =
        let job = some_at jobs j (omega (arith, slice_get_within tasks j task e, are.count)) in
        let is = are.each j job.0 task job.1 e in
        record { before = is.before; after = is.after }

    smaller : (j u : ℕ) → Contains (predecessors places j) u → u < j
    smaller j u h = stands_before config number t a sizes grain i valid j u h

    pub before_in : (j u : ℕ) → Contains (predecessors places j) u → Contains (before_of graph j) u
    before_in j u h = before_listed graph places as_many links_of smaller j u h

    pub is_graph : IsWithinLimits t a.nodes sizes jobs → IsGraph graph
    is_graph limits = record {
      partition = is_partition;
      linked = is_linked graph places as_many links_of smaller;
      few_cells = limits.cells;
      few_tasks = omega (arith, limits.tasks, are.count);
      few_links = omega (arith, limits.links, links_are graph places as_many links_of smaller);
    }
