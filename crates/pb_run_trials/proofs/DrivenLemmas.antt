-- What a Job of the two tasks may read, where each cell before its next one may be read; and what the tasks release.
use Rattle.std.proofs.Common.{◌≡◌, ◌∙◌, sym, ap, subst, ⊎_elim, eqb, map, List, [], ◌∷◌, ◌++◌, ℕ, ◌<◌, ◌≤◌, ◌+◌, length, Some, IsSome, refl}
use Rattle.std.specs.Prelude.{◌==◌, filter}
use Rattle.std.specs.List.{AllByRecursion, Contains, range_with_len}
use Rattle.std.proofs.Math.Bool.{cond}
use Rattle.std.proofs.lemmas.List.Elements.{Contains-push}
use Rattle.pb_base.proofs.ListLemmas.{in_cases, in_none}
use Rattle.pb_taskgraph.specs.Graphs.{GraphValue, after_of, before_of, cells_of}
use Rattle.pb_taskgraph.specs.Known.{known_turn}
use Rattle.pb_taskgraph.specs.Plans.{Plan, outcome_at}
use Rattle.pb_taskgraph.specs.Turns.{MayRead}
use Rattle.pb_taskgraph.proofs.KnownLemmas.{told-known}
use Rattle.atomic_table.specs.Seated.{TableId}
use Rattle.pb_cells.specs.Handles.{JobValue, new_job}
use Rattle.pb_cells.specs.Views.{ready_tasks}
use Rattle.pb_run_trials.specs.Given.{GivenValue, IsGiven, given_plan}
use Rattle.pb_run_trials.proofs.GivenLemmas.{after-one, after-two, before-one, before-two, given-reads, size}

known-some : (p : Plan) (t k c : ℕ) → MayRead p t k c → IsSome ((known_turn p t k).outcomes c)
known-some p t k c may = let some : IsSome (Some (outcome_at p.solution c)) = refl in subst IsSome (sym (told-known p t k c may)) some

module _ (w : GivenValue) (p : Plan) (name : given_plan w ≡ p) (is : IsGiven w) (t : ℕ) (task : t < length w.graph.tasks) where
  pub driven-reads : (k c : ℕ) → k ≤ length (cells_of w.graph t) → c < w.graph.inputs + t + k → IsSome ((known_turn p t k).outcomes c)
  driven-reads k c few below = subst (λ q. IsSome ((known_turn q t k).outcomes c)) name (known-some (given_plan w) t k c (given-reads w is t task k c few below))

  pub driven-whole : length (p.order t) ≡ length (cells_of w.graph t)
  unfolding given_plan
  driven-whole = ap (λ (q : Plan). length (q.order t)) (sym name)

pub task-count : (w : GivenValue) (p : Plan) → given_plan w ≡ p → length p.graph.tasks ≡ length w.graph.tasks
unfolding given_plan
task-count w p name = ap (λ (q : Plan). length q.graph.tasks) (sym name)

-- ---- the Job that is dealt, and the links
popped : {A : Type 0} (xs rest : List A) (x : A) → xs ≡ rest ++ x ∷ [] → Contains xs x
popped xs rest x e = subst (λ l. Contains l x) (sym e) (Contains-push rest x)

same-in : {A : Type 0} (xs : List A) (y : A) → AllByRecursion (λ a. a ≡ y) xs → (x : A) → Contains xs x → x ≡ y
same-in [] y each x h = absurd (in_none x h)
same-in (z ∷ zs) y each x h = ⊎_elim (λ (here : z ≡ x). sym here ∙ each.0) (λ (later : Contains zs x). same-in zs y each.1 x later) (in_cases z x zs h)

module _ (w : GivenValue) (p : Plan) (name : given_plan w ≡ p) (is : IsGiven w) where
  graph-is : w.graph ≡ p.graph
  unfolding given_plan
  graph-is = ap (λ (q : Plan). q.graph) name

  ready : ready_tasks p ≡ 0 ∷ []
  unfolding ready_tasks
  ready = ap (λ (g : GraphValue). filter (λ t. length (before_of g t) == 0) (range_with_len 0 (length g.tasks))) (sym graph-is) ∙ (ap (λ n. filter (λ t. length (before_of w.graph t) == 0) (range_with_len 0 n)) (size is.others w.graph is.split)
      ∙ (ap (λ l. filter_two (length l) (length (before_of w.graph 1))) (before-one is.others w.graph is.split) ∙ ap (λ l. filter_two 0 (length l)) (before-two is.others w.graph is.split)))
    where
      filter_two : ℕ → ℕ → List ℕ
      filter_two a b = cond (eqb a 0) (0 ∷ cond (eqb b 0) (1 ∷ []) []) (cond (eqb b 0) (1 ∷ []) [])

  pub job-dealt : (table : TableId) (jobs rest : List JobValue) (job : JobValue) → jobs ≡ map (new_job table) (ready_tasks p) → jobs ≡ rest ++ job ∷ [] → job ≡ new_job table 0
  job-dealt table jobs rest job are e = same-in jobs (new_job table 0) (subst (AllByRecursion (λ a. a ≡ new_job table 0)) (sym (are ∙ ap (map (new_job table)) ready)) (refl, tt)) job (popped jobs rest job e)

  -- what the tasks release
  pub after-first : after_of p.graph 0 ≡ 1 ∷ []
  after-first = ap (λ (g : GraphValue). after_of g 0) (sym graph-is) ∙ after-one is.others w.graph is.split

  pub after-second : after_of p.graph 1 ≡ []
  after-second = ap (λ (g : GraphValue). after_of g 1) (sym graph-is) ∙ after-two is.others w.graph is.split
