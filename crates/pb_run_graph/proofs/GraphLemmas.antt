-- The graph that is made of the steps of an unrolled run.
use Rattle.std.proofs.Common.{◌≡◌, ◌∙◌, refl, sym, ap, subst, ℕ, ◌+◌, ◌≤◌, List, [], ◌∷◌, length, map, slice_get, Some, arith}
use Rattle.std.specs.List.{All, AllZip, range_with_len}
use Rattle.std.proofs.lemmas.List.{length-map}
use Rattle.std.proofs.lemmas.List.FromFn.{length-range_with_len}
use Rattle.pb_program.specs.Trees.{ProgTransform, bare_prog}
use Rattle.pb_check.specs.Accepting.{AcceptedValue}
use Rattle.pb_check.specs.Orders.{AnalysisValue}
use Rattle.pb_links.specs.Links.{LinksValue, all_predecessors, all_successors, link_count, predecessors, successors}
use Rattle.pb_links.specs.Spots.{AllWithin, PlacesValue}
use Rattle.pb_plan.proofs.LinkedLemmas.{zip_at}
use Rattle.pb_recursion.specs.Depths.{sides_of_matrix}
use Rattle.pb_steps.specs.Handed.{run_matrices}
use Rattle.pb_steps.specs.Handed.{total}
use Rattle.pb_steps.specs.Handed.{Step, places_of}
use Rattle.pb_steps.specs.Handed.{Met, unrolled_run}
use Rattle.pb_steps.proofs.ListLemmas.{zip_length}
use Rattle.pb_steps.specs.Runs.{UnrolledValue}
use Rattle.pb_steps.specs.Stands.{AreSteps, IsStep}
use Rattle.pb_steps.specs.Values.{InstanceValue}
use Rattle.pb_steps.specs.declared.step.Step.{Step as StepValue}
use Rattle.pb_taskgraph.specs.Graphs.{IsGraph, TaskValue}
use Rattle.pb_taskgraph.specs.declared.limits.TheConstants.{MOST_LINKS, MOST_TASKS}
use Rattle.pb_run_plan.specs.RunTasks.{AreTasksOf, plan_of_run}
use Rattle.pb_run_plan.proofs.PlanLemmas.{is_plan}
use Rattle.pb_run_graph.specs.Linking.{CanBeLinked}
use Rattle.pb_run_graph.specs.Ready.{AreMadeWith, IsMadeFor}
use Rattle.pb_run_graph.proofs.EndLemmas.{met_cells}
use Rattle.pb_run_graph.proofs.ListLemmas.{below_length, numbered}
use Rattle.pb_run_graph.proofs.StepLemmas.{all_within}

module _ (p : List ProgTransform) (found : List AnalysisValue) where
  -- ---- what is made of them
  pub places_are : (instances : List InstanceValue) (xs : List StepValue) (ss : List Step) (qs : List PlacesValue) → AllZip (IsMadeFor p found instances (λ s q. q ≡ places_of s)) xs qs → AllZip (IsStep p found instances) xs ss → qs ≡ map places_of ss
  places_are instances [] [] [] h k = refl
  places_are instances [] (s ∷ ss) qs h k = absurd k
  places_are instances [] [] (q ∷ qs) h k = absurd h
  places_are instances (x ∷ xs) [] qs h k = absurd k
  places_are instances (x ∷ xs) (s ∷ ss) [] h k = absurd h
  places_are instances (x ∷ xs) (s ∷ ss) (q ∷ qs) h k = λ z. h.0 s k.0 z ∷ places_are instances xs ss qs h.1 k.1 z

  pub tasks_are : (u : UnrolledValue) (steps : List Step) (links : LinksValue) (tasks : List TaskValue) → AreMadeWith p found u links tasks → AreSteps p found u steps → links ≡ record { before = all_predecessors (map places_of steps); after = all_successors (map places_of steps) } → AreTasksOf steps tasks
  tasks_are u steps links tasks made are is =
      let count : length u.steps ≡ length steps = zip_length (IsStep p found u.instances) u.steps steps are in
      let before = ap (λ (l : LinksValue). l.before) is in
      let after = ap (λ (l : LinksValue). l.after) is in
      let long_before = ap length before ∙ many (predecessors (map places_of steps)) in
      let long_after = ap length after ∙ many (successors (map places_of steps)) in
      record {
        count = omega (arith, made.short, made.all (omega (arith, count, long_before)) (omega (arith, count, long_after)), count);
        each = λ k s task at_s at_task.
            let x = zip_at (IsStep p found u.instances) u.steps steps are k s at_s in
            let task_is = made.each k x.0 (predecessors (map places_of steps) k) (successors (map places_of steps) k) task x.1
            (ap (λ l. slice_get l k) before ∙ listed (predecessors (map places_of steps)) k s at_s) (ap (λ l. slice_get l k) after ∙ listed (successors (map places_of steps)) k s at_s) at_task s x.2 in
            record { call = task_is.call; kind = task_is.kind; parts = task_is.parts; before = task_is.before; after = task_is.after };
      }
    where
      many : (f : ℕ → List ℕ) → length (map f (range_with_len 0 (length (map places_of steps)))) ≡ length steps
      many f = length-map (range_with_len 0 (length (map places_of steps))) f ∙ length-range_with_len 0 (length (map places_of steps)) ∙ length-map steps places_of

      listed : (f : ℕ → List ℕ) (k : ℕ) (s : Step) → slice_get steps k ≡ Some s → slice_get (map f (range_with_len 0 (length (map places_of steps)))) k ≡ Some (f k)
      listed f k s at_s = numbered f 0 (length (map places_of steps)) k (omega (arith, length-map steps places_of, below_length steps k s at_s)) ∙ ap (λ j. Some (f j)) (let e : 0 + k ≡ k = omega arith in e)

pub count_of : (a : AcceptedValue) (u : UnrolledValue) (steps : List Step) → AreSteps (bare_prog a.program) a.found u steps → length u.steps ≡ length steps
count_of a u steps h = zip_length (IsStep (bare_prog a.program) a.found u.instances) u.steps steps h

-- ---- the graph
module _ (a : AcceptedValue) (u : UnrolledValue) (inputs : ℕ) (c : CanBeLinked a u inputs) where
  abbrev p : List ProgTransform
  p = bare_prog a.program

  abbrev pub run_steps : List Step
  run_steps = (unrolled_run p a.found c.config c.grain c.depth c.number (map sides_of_matrix c.ins)).steps

  count_is : length u.steps ≡ length run_steps
  count_is = count_of a u run_steps c.steps

  module _ (places : List PlacesValue) (made : AllZip (IsMadeFor p a.found u.instances (λ s q. q ≡ places_of s)) u.steps places) where
    pub places_is : (steps : List Step) → AreSteps p a.found u steps → places ≡ map places_of steps
    places_is steps h = places_are p a.found u.instances u.steps steps places made h

    pub are_within : All (AllWithin u.met.matrices) places
    are_within = subst (All (AllWithin u.met.matrices)) (sym (places_is run_steps c.steps)) (all_within a u inputs c)

    pub are_as_many : length places ≡ length u.steps
    are_as_many = ap length (places_is run_steps c.steps) ∙ length-map run_steps places_of ∙ sym count_is

  module _ (links : LinksValue) (tasks : List TaskValue) (are : AreMadeWith p a.found u links tasks) (is : (steps : List Step) → AreSteps p a.found u steps → links ≡ record { before = all_predecessors (map places_of steps); after = all_successors (map places_of steps) }) where
    pub made_tasks : (steps : List Step) → AreSteps p a.found u steps → AreTasksOf steps tasks
    made_tasks steps h = tasks_are p a.found u steps links tasks are h (is steps h)

    pub made_graph : ((steps : List Step) → AreSteps p a.found u steps → (length steps ≤ MOST_TASKS) × (link_count (map places_of steps) ≤ MOST_LINKS)) → IsGraph (record { inputs = inputs; cells = u.met.cells; tasks = tasks })
    unfolding plan_of_run
    made_graph within =
        let ms = run_matrices p a.found c.config c.grain c.depth c.number c.ins in
        let few = within run_steps c.steps in
        let plan = is_plan p a.found c.config c.grain c.depth c.number c.ins c.entered tasks (made_tasks run_steps c.steps) c.small (record { side = c.side; cells = c.cells; tasks = few.0; links = few.1 }) in
        let cells : u.met.cells ≡ total ms = ap (λ (m : Met). m.cells) c.met ∙ met_cells p a.found c.config c.grain c.depth c.number c.ins c.entered in
        subst IsGraph (λ z. record { inputs = sym c.given z; cells = sym cells z; tasks = tasks }) plan.graph
