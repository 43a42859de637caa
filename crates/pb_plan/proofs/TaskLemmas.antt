-- Tasks that are made one after another.
use Rattle.std.proofs.Common.{◌≡◌, ◌∙◌, refl, sym, ap, subst, ⊎_elim, inl, inr, ◌⊎◌, ℕ, zero, suc, ◌+◌, ◌-◌, ◌≤◌, ◌<◌, List, [], ◌∷◌, ◌++◌, drop, get_or, length, map, slice_get, take, Some, arith}
use Rattle.std.specs.List.{AllZip, range_with_len}
use Rattle.std.proofs.lemmas.List.{length-map}
use Rattle.std.proofs.lemmas.List.FromFn.{get_or-range_with_len, length-range_with_len}
use Rattle.std.proofs.lemmas.Option.{get_or_from_slice_get, slice_get_within}
use Rattle.std.proofs.lemmas.Slice.Zip.{all_zipped_more}
use Rattle.pb_values.specs.Views.{Shows, cell_of}
use Rattle.pb_values.specs.declared.rect.Rect.{Rect}
use Rattle.pb_values.specs.declared.shape.Shape.{Shape}
use Rattle.pb_values.specs.declared.view.View.{View}
use Rattle.pb_graph.specs.Nodes.{NodeValue}
use Rattle.pb_program.specs.Forms.{DeclValue}
use Rattle.pb_program.specs.Trees.{ProgTransform}
use Rattle.pb_check.proofs.FirstLemmas.{some_same}
use Rattle.pb_frame.proofs.ListLemmas.{taken}
use Rattle.pb_frame.specs.Frames.{JobValue}
use Rattle.pb_frame.specs.declared.part.FramePart.{FramePart}
use Rattle.pb_links.specs.Links.{all_predecessors, all_successors, predecessors, successors}
use Rattle.pb_links.specs.Spots.{PlacesValue}
use Rattle.pb_taskgraph.specs.Graphs.{TaskValue}
use Rattle.pb_taskgraph.specs.declared.task.Part.{Part}
use Rattle.pb_plan.specs.Boxes.{places_of}
use Rattle.pb_plan.proofs.JobLemmas.{map_at}
use Rattle.pb_plan.specs.Tasks.{AreTasks, IsPartFor, IsTaskFor, LiesInView, kind_for}

-- ---- two lists side by side, and one more of each
pub zip_next : {A B : Type 0} (R : A → B → Type 0) (xs : List A) (k : ℕ) (d : A) (ys zs : List B) (y : B) → k < length xs → AllZip R (take k xs) ys → R (get_or xs k d) y → zs ≡ ys ++ y ∷ [] → AllZip R (take (k + 1) xs) zs
zip_next R xs k d ys zs y below h r e =
    subst (AllZip R (take (k + 1) xs)) (sym e) (subst (λ l. AllZip R l (ys ++ y ∷ [])) (sym (taken xs k d below)) (all_zipped_more R (take k xs) ys (get_or xs k d) y h r))

-- ---- the part that is made of one
found_is : {A : Type 0} (xs : List A) (k m : ℕ) (x y : A) → slice_get xs k ≡ Some x → m ≡ k → y ≡ get_or xs m y → y ≡ x
found_is xs k m x y there same is = is ∙ ap (λ n. get_or xs n y) same ∙ get_or_from_slice_get xs k x y there

abbrev region : Shape → Rect → Shape
region s r = record { dims = s.dims; w = r.x1 - r.x0; h = r.y1 - r.y0 }

pub part_is : (t : ProgTransform) (nodes : List NodeValue) (views : List View) (from : FramePart) (part : Part) → LiesInView t nodes views from
    → (node : NodeValue) (decl : DeclValue) (view : View) → node ≡ get_or nodes from.node node → decl ≡ get_or t.matrices node.matrix decl → view ≡ get_or views node.matrix view
    → part.name ≡ decl.name → part.rect ≡ from.rect → Shows part.view (region view.shape from.rect) (λ x y. cell_of view (from.rect.x0 + x) (from.rect.y0 + y)) → IsPartFor t nodes views from part
part_is t nodes views from part h node decl view at_node at_decl at_view name rect cells =
    let own : node ≡ h.node = found_is nodes from.node from.node h.node node h.there refl at_node in
    let matrix : node.matrix ≡ h.node.matrix = ap (λ (n : NodeValue). n.matrix) own in
    let own_decl : decl ≡ h.decl = found_is t.matrices h.node.matrix node.matrix h.decl decl h.declared matrix at_decl in
    let own_view : view ≡ h.view = found_is views h.node.matrix node.matrix h.view view h.at matrix at_view in
    record {
      node = h.node;
      there = h.there;
      decl = h.decl;
      declared = h.declared;
      view = h.view;
      at = h.at;
      name = name ∙ ap (λ (d : DeclValue). d.name) own_decl;
      rect = rect;
      cells = subst (λ (v : View). Shows part.view (region v.shape from.rect) (λ x y. cell_of v (from.rect.x0 + x) (from.rect.y0 + y))) own_view cells;
    }

-- ---- what is left of a list
module _ {A : Type 0} where
  left_here : (n : ℕ) (xs : List A) (x : A) (rest : List A) → drop n xs ≡ x ∷ rest → (slice_get xs n ≡ Some x) × (drop (n + 1) xs ≡ rest)
  left_here zero [] x rest e = absurd (omega (arith, ap length e))
  left_here zero (y ∷ xs) x rest e = (ap (λ l. slice_get l 0) e, ap (drop 1) e)
  left_here (suc n) [] x rest e = absurd (omega (arith, ap length e))
  left_here (suc n) (y ∷ xs) x rest e = let h = left_here n xs x rest e in (h.0, (let at : suc n + 1 ≡ suc (n + 1) = omega arith in ap (λ k. drop k (y ∷ xs)) at) ∙ h.1)

  none_left : (n : ℕ) (xs : List A) → length (drop n xs) ≡ 0 → length xs ≤ n
  none_left zero xs e = omega (arith, e)
  none_left (suc n) [] e = omega arith
  none_left (suc n) (y ∷ xs) e = omega (arith, none_left n xs e)

  last_or_before : (ys : List A) (y z : A) (k : ℕ) → slice_get (ys ++ y ∷ []) k ≡ Some z → (slice_get ys k ≡ Some z) ⊎ ((k ≡ length ys) × (y ≡ z))
  last_or_before [] y z zero e = inr (refl, some_same y z e)
  last_or_before [] y z (suc k) e = absurd (cc)
  last_or_before (x ∷ ys) y z zero e = inl e
  last_or_before (x ∷ ys) y z (suc k) e = ⊎_elim (λ early. inl early) (λ late. inr (omega (arith, late.0), late.1)) (last_or_before ys y z k e)

  longer : (ys : List A) (y : A) → length (ys ++ y ∷ []) ≡ length ys + 1
  longer [] y = omega arith
  longer (x ∷ ys) y = omega (arith, longer ys y)

-- ---- the list of a task among those of all tasks
listed : (f : ℕ → List ℕ) (n k : ℕ) (list : List ℕ) → slice_get (map f (range_with_len 0 n)) k ≡ Some list → list ≡ f k
listed f n k list e =
    let m = map_at f (range_with_len 0 n) k list e in
    let below : k < n = omega (arith, slice_get_within (range_with_len 0 n) k m.0 m.1, length-range_with_len 0 n) in
    let at : m.0 ≡ k = omega (arith, get_or_from_slice_get (range_with_len 0 n) k m.0 0 m.1, get_or-range_with_len 0 n k 0 below) in
    sym m.2 ∙ ap f at

module _ (t : ProgTransform) (nodes : List NodeValue) (sizes : List ℕ) (views : List View) (jobs : List JobValue) where
  abbrev places : List PlacesValue
  places = map (places_of t nodes sizes) jobs

  -- the tasks of the first jobs, and what is left for the others
  pub record AreSome (jobs_left : List JobValue) (before_left after_left : List (List ℕ)) (tasks : List TaskValue) : Type 0 where
    pub short : length tasks ≤ length jobs
    pub of_jobs : drop (length tasks) jobs ≡ jobs_left
    pub of_before : drop (length tasks) (all_predecessors places) ≡ before_left
    pub of_after : drop (length tasks) (all_successors places) ≡ after_left
    pub each : (j : ℕ) (job : JobValue) (task : TaskValue) → slice_get jobs j ≡ Some job → slice_get tasks j ≡ Some task → IsTaskFor t nodes sizes views jobs j job task

  pub none_yet : (before after : List (List ℕ)) → before ≡ all_predecessors places → after ≡ all_successors places → AreSome jobs before after []
  none_yet before after from to = record { short = omega arith; of_jobs = refl; of_before = sym from; of_after = sym to; each = λ j job task at none. absurd (cc) }

  module _ (left rest : List JobValue) (job : JobValue) (before_left befores after_left afters : List (List ℕ)) (before after : List ℕ) (tasks : List TaskValue) (h : AreSome left before_left after_left tasks) (of : left ≡ job ∷ rest) (from : before_left ≡ before ∷ befores) (to : after_left ≡ after ∷ afters) where
    job_here : (slice_get jobs (length tasks) ≡ Some job) × (drop (length tasks + 1) jobs ≡ rest)
    job_here = left_here (length tasks) jobs job rest (h.of_jobs ∙ of)

    before_here : (slice_get (all_predecessors places) (length tasks) ≡ Some before) × (drop (length tasks + 1) (all_predecessors places) ≡ befores)
    before_here = left_here (length tasks) (all_predecessors places) before befores (h.of_before ∙ from)

    after_here : (slice_get (all_successors places) (length tasks) ≡ Some after) × (drop (length tasks + 1) (all_successors places) ≡ afters)
    after_here = left_here (length tasks) (all_successors places) after afters (h.of_after ∙ to)

    pub one_more : (more : List TaskValue) (task : TaskValue) → more ≡ tasks ++ task ∷ [] → task.call ≡ 0 → task.kind ≡ kind_for job.rule → AllZip (IsPartFor t nodes views) job.parts task.parts → task.before ≡ before → task.after ≡ after → AreSome rest befores afters more
    one_more more task e call kind parts same_before same_after =
        let n = length tasks in
        let long : length (tasks ++ task ∷ []) ≡ n + 1 = longer tasks task in
        let is : IsTaskFor t nodes sizes views jobs n job task = record {
          call = call;
          kind = kind;
          parts = parts;
          before = same_before ∙ listed (predecessors places) (length places) n before before_here.0;
          after = same_after ∙ listed (successors places) (length places) n after after_here.0;
        } in
        subst (AreSome rest befores afters) (sym e) (record {
          short = omega (arith, long, slice_get_within jobs n job job_here.0);
          of_jobs = ap (λ k. drop k jobs) long ∙ job_here.1;
          of_before = ap (λ k. drop k (all_predecessors places)) long ∙ before_here.1;
          of_after = ap (λ k. drop k (all_successors places)) long ∙ after_here.1;
          each = λ j other made at there. ⊎_elim
              (λ early. h.each j other made at early)
              (λ late. subst (λ k. IsTaskFor t nodes sizes views jobs k other made) (sym late.0) (subst (λ x. IsTaskFor t nodes sizes views jobs n other x) late.1 (subst (λ x. IsTaskFor t nodes sizes views jobs n x task) (some_same job other (sym job_here.0 ∙ ap (slice_get jobs) (sym late.0) ∙ at)) is)))
              (last_or_before tasks task made j there);
        })

  pub no_more : (jobs_left : List JobValue) (before_left after_left : List (List ℕ)) (tasks : List TaskValue) → AreSome jobs_left before_left after_left tasks → ((length jobs_left ≡ 0) ⊎ (length before_left ≡ 0)) ⊎ (length after_left ≡ 0) → AreTasks t nodes sizes views jobs tasks
  no_more jobs_left before_left after_left tasks h end = record { count = omega (arith, h.short, past end); each = h.each }
    where
      as_many : (f : ℕ → List ℕ) → length (map f (range_with_len 0 (length places))) ≡ length jobs
      as_many f = length-map (range_with_len 0 (length places)) f ∙ length-range_with_len 0 (length places) ∙ length-map jobs (places_of t nodes sizes)

      past : ((length jobs_left ≡ 0) ⊎ (length before_left ≡ 0)) ⊎ (length after_left ≡ 0) → length jobs ≤ length tasks
      past (inl (inl e)) = none_left (length tasks) jobs (ap length h.of_jobs ∙ e)
      past (inl (inr e)) = omega (arith, none_left (length tasks) (all_predecessors places) (ap length h.of_before ∙ e), as_many (predecessors places))
      past (inr e) = omega (arith, none_left (length tasks) (all_successors places) (ap length h.of_after ∙ e), as_many (successors places))
