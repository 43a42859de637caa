-- Two tasks that a hand runs.
use Rattle.std.proofs.Common.{◌≡◌, ◌∙◌, refl, sym, ap, subst, inl, inr, ⊎_elim, ℕ, zero, suc, ◌<◌, ◌≤◌, true, List, [], ◌∷◌, ◌++◌, length, map, get_or, nat_eq, Some, IsSome, arith}
use Rattle.std.specs.List.{Contains}
use Rattle.std.proofs.lemmas.Bool.{cases_lt, eqb-true}
use Rattle.std.proofs.lemmas.List.{take_all}
use Rattle.std.proofs.lemmas.List.Elements.{Contains-push}
use Rattle.atomic_table.specs.Seated.{TableId}
use Rattle.pb_base.proofs.ListLemmas.{in_head, in_none, map_in}
use Rattle.pb_taskgraph.specs.Graphs.{GraphValue, TaskValue, before_of, cells_of}
use Rattle.pb_taskgraph.proofs.GraphLemmas.{after-at}
use Rattle.pb_taskgraph.specs.Known.{known_turn}
use Rattle.pb_taskgraph.specs.Plans.{IsPlan, Plan, outcome_at}
use Rattle.pb_taskgraph.specs.Turns.{MayRead}
use Rattle.pb_taskgraph.proofs.KnownLemmas.{told-known}
use Rattle.pb_cells.specs.declared.view.TaskView.{TaskView}
use Rattle.pb_cells.specs.Handles.{JobValue, new_job, turn_at}
use Rattle.pb_cells.specs.Views.{ready_tasks}
use Rattle.pb_cells.proofs.OpeningLemmas.{open-in}
use Rattle.pb_instance_trials.specs.Driven.{AreTwo}

one-item : (xs : List ℕ) → 1 ≤ length xs → length xs < 2 → get_or xs 0 0 ≡ 1 → xs ≡ 1 ∷ []
one-item [] some few is = absurd (omega (arith, some))
one-item (x ∷ []) some few is = ap (λ z. z ∷ []) is
one-item (x ∷ y ∷ l) some few is = absurd (omega (arith, few))

no-item : (xs : List ℕ) → length xs < 1 → xs ≡ []
no-item [] few = refl
no-item (x ∷ l) few = absurd (omega (arith, few))

-- the tasks are two, by their list
pub are-two : (g : GraphValue) (tasks : List TaskValue) → tasks ≡ g.tasks → (first second : TaskValue) → 2 ≤ length tasks → length tasks < 3 → first ≡ get_or tasks 0 first → second ≡ get_or tasks 1 second
    → (nexts none : List ℕ) → nexts ≡ first.after → 1 ≤ length nexts → length nexts < 2 → none ≡ second.after → length none < 1 → nat_eq (get_or nexts 0 0) 1 ≡ true → AreTwo g
are-two g tasks same first second some few is_first is_second nexts none after one most over short next =
    let size : length g.tasks ≡ 2 = omega (arith, ap length same, some, few) in
    record {
      tasks = size;
      first = after-at g 0 first (omega (arith, size)) (subst (λ l. first ≡ get_or l 0 first) same is_first) ∙ sym after ∙ one-item nexts one most (eqb-true (get_or nexts 0 0) 1 next);
      second = after-at g 1 second (omega (arith, size)) (subst (λ l. second ≡ get_or l 1 second) same is_second) ∙ sym over ∙ no-item none short;
    }

some-in : (xs : List ℕ) (x : ℕ) → Contains xs x → length xs ≡ 0 → ⊥
some-in [] x h none = in_none x h
some-in (y ∷ ys) x h none = absurd (omega (arith, none))

module _ (p : Plan) (is : IsPlan p) (two : AreTwo p.graph) where
  waits : Contains (before_of p.graph 1) 0
  waits = (is.graph.linked.mirrored 1 0).1 (subst (λ l. Contains l 1) (sym two.first) (in_head 1 []))

  -- the second task may read all cells when it has written its own
  pub all-known : (j : TaskView) → j.task ≡ 1 → length (p.order 1) ≤ j.written → (c : ℕ) → c < p.graph.cells → IsSome ((turn_at p j).outcomes c)
  all-known j task all c below = subst (λ t. IsSome ((known_turn p t j.written).outcomes c)) (sym task) (known (⊎_elim (λ (input : c < p.graph.inputs). inl input) other (cases_lt c p.graph.inputs)))
    where
      known : MayRead p 1 j.written c → IsSome ((known_turn p 1 j.written).outcomes c)
      known may = let some : IsSome (Some (outcome_at p.solution c)) = refl in subst IsSome (sym (told-known p 1 j.written c may)) some

      by : (t : ℕ) → t < 2 → Contains (cells_of p.graph t) c → MayRead p 1 j.written c
      by zero few own = inr (inl (0, waits, own))
      by (suc zero) few own = inr (inr (subst (λ l. Contains l c) (sym (take_all j.written (p.order 1) all)) ((is.listed 1 c (omega (arith, two.tasks))).1 own)))
      by (suc (suc t)) few own = absurd (omega (arith, few))

      other : p.graph.inputs ≤ c → MayRead p 1 j.written c
      other past = let made = is.graph.partition.some c past below in by made.0 (omega (arith, made.1, two.tasks)) made.2

  -- the Job that is dealt is that of the first task
  pub first-dealt : (table : TableId) (jobs rest : List JobValue) (job : JobValue) → jobs ≡ map (new_job table) (ready_tasks p) → jobs ≡ rest ++ job ∷ [] → job ≡ new_job table 0
  first-dealt table jobs rest job are e =
      let there = map_in (new_job table) (ready_tasks p) job (subst (λ (l : List JobValue). Contains l job) are (subst (λ (l : List JobValue). Contains l job) (sym e) (Contains-push rest job))) in
      sym there.2 ∙ ap (new_job table) (first there.0 (open-in p there.0 there.1))
    where
      first : (t : ℕ) → (t < length p.graph.tasks) × (length (before_of p.graph t) ≡ 0) → t ≡ 0
      first zero open_task = refl
      first (suc zero) open_task = absurd (some-in (before_of p.graph 1) 0 waits open_task.1)
      first (suc (suc t)) open_task = absurd (omega (arith, open_task.0, two.tasks))
