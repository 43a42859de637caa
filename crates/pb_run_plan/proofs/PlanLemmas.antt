-- A run within the limits is a plan, and its tasks may read what they need.
use Rattle.std.proofs.Common.{◌≡◌, ◌∙◌, refl, sym, subst, inl, inr, ⊎_elim, ℕ, zero, suc, ◌<◌, ◌≤◌, List, [], ◌∷◌, length, map, take, slice_get, Some, arith}
use Rattle.std.specs.Prelude.{slice_index_or}
use Rattle.std.specs.List.{All, Contains}
use Rattle.std.proofs.lemmas.Bool.{cases_lt}
use Rattle.std.proofs.lemmas.List.{length-map}
use Rattle.std.proofs.lemmas.Option.{slice_get_within}
use Rattle.pb_base.proofs.ListLemmas.{at_in, flat_in, in_at, in_flat}
use Rattle.pb_program.specs.Configs.{ConfigValue}
use Rattle.pb_program.specs.Trees.{ProgTransform}
use Rattle.pb_links.specs.Links.{predecessors}
use Rattle.pb_links.specs.Spots.{PlacesValue}
use Rattle.pb_model.specs.Calls.{Outcomes}
use Rattle.pb_check.specs.Orders.{AnalysisValue}
use Rattle.pb_taskgraph.specs.Graphs.{EachOnce, GraphValue, IsPartition, TaskValue, cells_of as graph_cells, task_cells}
use Rattle.pb_taskgraph.specs.Plans.{IsPlan, IsSmall}
use Rattle.pb_taskgraph.specs.Turns.{MayRead}
use Rattle.pb_plan.proofs.JobLemmas.{at_map, map_at}
use Rattle.pb_plan.proofs.LinkedLemmas.{HasLinksOf, before_in, in_index, index_is, is_linked, links_are, some_at}
use Rattle.pb_plan.proofs.OnceLemmas.{Once, once_each}
use Rattle.pb_runs.specs.Laws.{IsEntered, MayUse}
use Rattle.pb_runs.specs.Steps.{Step, cells_in, cells_of, places_of}
use Rattle.pb_runs.proofs.BaseLemmas.{total_append, total_is}
use Rattle.pb_runs.proofs.LinkLemmas.{links_go_back, one_step}
use Rattle.pb_runs.proofs.RunLemmas.{made, ms, run, run_each, run_few, run_once, run_only}
use Rattle.pb_runs.proofs.UseLemmas.{outcomes_small}
use Rattle.pb_run_plan.specs.RunTasks.{AreTasksOf, IsTaskOf, IsWithinLimits, plan_of_run, run_graph, step_order}
use Rattle.pb_run_plan.proofs.OnceLemmas.{once_part}
use Rattle.pb_run_plan.proofs.PieceLemmas.{part_from, part_once, part_to, step_cells}

index_past : {A : Type 0} (xss : List (List A)) (u : ℕ) → length xss ≤ u → slice_index_or xss u [] ≡ []
index_past [] u h = refl
index_past (xs ∷ xss) zero h = absurd (omega (arith, h))
index_past (xs ∷ xss) (suc u) h = index_past xss u (omega (arith, h))

module _ (p : List ProgTransform) (found : List AnalysisValue) (config : ConfigValue) (grain depth number : ℕ) (ins : List Outcomes) (h : IsEntered p found config number ins) (tasks : List TaskValue) where
  abbrev steps : List Step
  steps = (run p found config grain depth number ins h).steps

  abbrev all : List Outcomes
  all = ms p found config grain depth number ins h

  abbrev graph : GraphValue
  graph = run_graph ins all steps tasks

  abbrev places : List PlacesValue
  places = map places_of steps

  module _ (are : AreTasksOf steps tasks) where
    -- ---- the step of a task
    step_at : (k : ℕ) (task : TaskValue) → slice_get tasks k ≡ Some task → (s : Step) × (slice_get steps k ≡ Some s) × IsTaskOf steps k s task
    step_at k task e =
        let s = some_at steps k (omega (arith, slice_get_within tasks k task e, are.count)) in
        (s.0, s.1, are.each k s.0 task s.1 e)

    task_at : (k : ℕ) (s : Step) → slice_get steps k ≡ Some s → (task : TaskValue) × (slice_get tasks k ≡ Some task) × IsTaskOf steps k s task
    task_at k s e =
        let task = some_at tasks k (omega (arith, slice_get_within steps k s e, are.count)) in
        (task.0, task.1, are.each k s task.0 e task.1)

    once_of : (k : ℕ) (s : Step) → slice_get steps k ≡ Some s → Once (cells_of s)
    once_of k s e = once_part cells_of steps (run_once p found config grain depth number ins h) k s e

    order_is : (k : ℕ) (s : Step) → slice_get steps k ≡ Some s → step_order steps k ≡ cells_of s
    unfolding step_order
    order_is k s e = index_is (map cells_of steps) k (cells_of s) (at_map cells_of steps k s e)

    cells_are : (k : ℕ) (task : TaskValue) → slice_get tasks k ≡ Some task → graph_cells graph k ≡ task_cells task
    unfolding graph_cells
    cells_are k task e = index_is (map task_cells tasks) k (task_cells task) (at_map task_cells tasks k task e)

    -- ---- the cells of a task are those of its step
    cells_from : (k c : ℕ) → Contains (graph_cells graph k) c → (s : Step) × (slice_get steps k ≡ Some s) × Contains (cells_of s) c
    unfolding graph_cells
    cells_from k c own =
        let l = in_index (map task_cells tasks) k c own in
        let task = map_at task_cells tasks k l.0 l.1 in
        let s = step_at k task.0 task.1 in
        (s.0, s.1, part_to _ (cells_of s.0) (step_cells s.0 (once_of k s.0 s.1)) task.0.parts s.2.parts c (subst (λ xs. Contains xs c) (sym task.2) l.2))

    pub cells_to : (k : ℕ) (s : Step) → slice_get steps k ≡ Some s → (c : ℕ) → Contains (cells_of s) c → Contains (graph_cells graph k) c
    cells_to k s e c own =
        let task = task_at k s e in
        subst (λ xs. Contains xs c) (sym (cells_are k task.0 task.1)) (part_from _ (cells_of s) (step_cells s (once_of k s e)) task.0.parts task.2.parts c own)

    cells_once : (k : ℕ) → EachOnce (graph_cells graph k)
    unfolding graph_cells
    cells_once k = ⊎_elim
        (λ (here : k < length tasks).
        let task = some_at tasks k here in
        let s = step_at k task.0 task.1 in
        subst EachOnce (sym (cells_are k task.0 task.1)) (once_each (task_cells task.0) (part_once _ (cells_of s.0) (step_cells s.0 (once_of k s.0 s.1)) task.0.parts s.2.parts)))
        (λ (past : length tasks ≤ k). subst EachOnce (sym (index_past (map task_cells tasks) k (omega (arith, past, length-map tasks task_cells)))) (λ i j below_i below_j same. absurd (omega (arith, below_i))))
        (cases_lt k (length tasks))

    is_partition : IsPartition graph
    is_partition = record {
      inputs = let both = total_append ins (made p found config grain depth number ins h) in omega (arith, both);
      past = λ k c own. (let s = cells_from k c own in run_only p found config grain depth number ins h c (in_all s.0 k s.1 c s.2));
      some = λ c low high.
          let f = flat_in cells_of steps c (run_each p found config grain depth number ins h c low high) in
          let k = at_in steps f.0 f.1 in
          (k.0, omega (arith, slice_get_within steps k.0 f.0 k.1, are.count), cells_to k.0 f.0 k.1 c f.2);
      one = λ k l c own_k own_l.
          let s = cells_from k c own_k in
          let r = cells_from l c own_l in
          one_step steps c (run_few p found config grain depth number ins h c) k l s.0 r.0 s.1 r.1 s.2 r.2;
      once = cells_once;
    }
      where
        in_all : (s : Step) (k : ℕ) → slice_get steps k ≡ Some s → (c : ℕ) → Contains (cells_of s) c → Contains (cells_in steps) c
        in_all s k e c own = in_flat cells_of steps s c (in_at steps k s e) own

    -- ---- links
    as_many : length places ≡ length tasks
    as_many = length-map steps places_of ∙ sym are.count

    links_of : (k : ℕ) (task : TaskValue) → slice_get tasks k ≡ Some task → HasLinksOf places k task
    links_of k task e = let s = step_at k task e in record { before = s.2.before; after = s.2.after }

    smaller : (k u : ℕ) → Contains (predecessors places k) u → u < k
    smaller k u waits = links_go_back p found config grain depth number ins h k u waits

    pub is_plan : All (λ (m : Outcomes). All IsSmall m.cells) ins → IsWithinLimits all steps → IsPlan (plan_of_run ins all steps tasks)
    unfolding plan_of_run
    is_plan small limits = record {
      graph = record {
        partition = is_partition;
        linked = is_linked graph places as_many links_of smaller;
        few_cells = limits.cells;
        few_tasks = omega (arith, limits.tasks, are.count);
        few_links = omega (arith, limits.links, links_are graph places as_many links_of smaller);
      };
      size = total_is all;
      small = outcomes_small p found config grain depth number ins h limits.side small;
      listed = λ k c below.
          let s = some_at steps k (omega (arith, below, are.count)) in
          let same = order_is k s.0 s.1 in (
            λ own. cells_to k s.0 s.1 c (subst (λ xs. Contains xs c) same own),
            λ own. (let r = cells_from k c own in subst (λ xs. Contains xs c) (sym (order_is k r.0 r.1)) r.2),
          );
      once = λ k below.
          let s = some_at steps k (omega (arith, below, are.count)) in
          subst EachOnce (sym (order_is k s.0 s.1)) (once_each (cells_of s.0) (once_of k s.0 s.1));
    }

    -- ---- what a task may read
    pub may_read : (k done c : ℕ) → MayUse ins steps k done c → MayRead (plan_of_run ins all steps tasks) k done c
    unfolding plan_of_run
    may_read k done c (inl low) = inl low
    may_read k done c (inr (inl m)) = inr (inl (m.0, before_in graph places as_many links_of smaller k m.0 m.2, cells_to m.0 m.1 m.3 c m.4))
    may_read k done c (inr (inr m)) = inr (inr (subst (λ xs. Contains (take done xs) c) (sym (order_is k m.0 m.1)) m.2))
