-- There are few events.
use Rattle.std.proofs.Common.{◌≡◌, ◌∙◌, refl, sym, ap, subst, ⊎_elim, ℕ, zero, suc, ◌+◌, ◌*◌, ◌<◌, ◌≤◌, ltb, Bool, true, false, List, [], ◌∷◌, length, take, get_or, Option, Some, None, IsSome, arith}
use Rattle.std.specs.Prelude.{is_some, sum_by}
use Rattle.std.specs.List.{Contains}
use Rattle.std.proofs.Math.Bool.{cond}
use Rattle.std.proofs.lemmas.Bool.{cases_eq, cases_lt}
use Rattle.std.proofs.lemmas.Bool.Decides.{nat_tests}
use Rattle.std.proofs.lemmas.List.{get_or_default, take_all}
use Rattle.std.proofs.lemmas.List.Sums.{sum_by_more}
use Rattle.pb_base.proofs.ListLemmas.{in_none}
use Rattle.pb_values.specs.declared.outcome.Outcome.{Outcome}
use Rattle.pb_taskgraph.specs.Graphs.{GraphValue, TaskValue, before_of, link_count}
use Rattle.pb_taskgraph.specs.Plans.{IsPlan, Plan, outcome_at}
use Rattle.pb_taskgraph.proofs.GraphLemmas.{before-at, before-past}
use Rattle.pb_core.specs.declared.event.Event.{Event}
use Rattle.pb_core.specs.declared.event.Event.TheVariants.{Finish, Give, Release, Start, Write}
use Rattle.pb_core.specs.States.{Enabled, State, counted, first_state, happens, with}
use Rattle.pb_core.specs.Events.{AllEnabled, all_happen, most_events}
use Rattle.pb_core.specs.Sound.{IsSound}
use Rattle.pb_core.proofs.CountLemmas.{count-more, count-most, count-same, one_if}
use Rattle.pb_core.proofs.FirstLemmas.{first-sound}
use Rattle.pb_core.proofs.KeepLemmas.{keeps}
use Rattle.pb_core.proofs.WithLemmas.{link-column, link-new, link-row, some-of, with-other, with-same, with_link}

-- the sum of a function over the numbers below another
abbrev sum_below : (ℕ → ℕ) → ℕ → ℕ
sum_below f zero = 0
sum_below f (suc n) = sum_below f n + f n

module _ (f h : ℕ → ℕ) where
  sum-same : (n : ℕ) → ((k : ℕ) → k < n → h k ≡ f k) → sum_below h n ≡ sum_below f n
  sum-same zero same = refl
  sum-same (suc n) same = let rest = sum-same n (λ k below. same k (omega arith)) in let last = same n (omega arith) in omega (arith, rest, last)

  sum-more : (m n : ℕ) → m < n → h m ≡ f m + 1 → ((k : ℕ) → (k ≡ m → ⊥) → h k ≡ f k) → sum_below h n ≡ sum_below f n + 1
  sum-more m zero below more same = absurd (omega arith)
  sum-more m (suc n) below more same = ⊎_elim
      (λ (last : n ≡ m).
      let here : h n ≡ f n + 1 = subst (λ k. h k ≡ f k + 1) (sym last) more in
      let rest = sum-same n (λ k less. same k (λ e. omega arith)) in omega (arith, rest, here))
      (λ (other : n ≡ m → ⊥). let rest = sum-more m n (omega arith) more same in let here = same n other in omega (arith, rest, here))
      (cases_eq n m)

sum-most : (f h : ℕ → ℕ) (n : ℕ) → ((k : ℕ) → f k ≤ 3 + h k) → sum_below f n ≤ 3 * n + sum_below h n
sum-most f h zero most = omega arith
sum-most f h (suc n) most = let rest = sum-most f h n most in let here = most n in omega (arith, rest, here)

sum-ones : (f : ℕ → ℕ) (n : ℕ) → ((k : ℕ) → f k ≤ 1) → sum_below f n ≤ n
sum-ones f zero most = omega arith
sum-ones f (suc n) most = let rest = sum-ones f n most in let here = most n in omega (arith, rest, here)

-- the numbers below another, counted
sum-first : (i n : ℕ) → n ≤ i → sum_below (λ k. one_if (ltb k i)) n ≡ n
sum-first i zero below = refl
sum-first i (suc n) below = let rest = sum-first i n (omega arith) in let here = inside n i (omega arith) in omega (arith, rest, here)
  where
    inside : (k j : ℕ) → k < j → one_if (ltb k j) ≡ 1
    inside k j less = grind (arith, nat_tests)

sum-inputs : (i n : ℕ) → i ≤ n → i ≤ sum_below (λ k. one_if (ltb k i)) n
sum-inputs i zero below = omega arith
sum-inputs i (suc n) below = ⊎_elim
    (λ (inside : i < suc n). let rest = sum-inputs i n (omega arith) in omega (arith, rest))
    (λ (last : suc n ≤ i). let all = sum-first i (suc n) last in omega (arith, all))
    (cases_lt i (suc n))

sum-list : (f : TaskValue → ℕ) (h : ℕ → ℕ) (xs : List TaskValue) (d : TaskValue) → ((k : ℕ) → k < length xs → h k ≡ f (get_or xs k d)) → (n : ℕ) → n ≤ length xs → sum_below h n ≡ sum_by f (take n xs)
sum-list f h xs d same zero below = refl
sum-list f h xs d same (suc n) below =
    let rest = sum-list f h xs d same n (omega arith) in
    let more : sum_by f (take (n + 1) xs) ≡ sum_by f (take n xs) + f (get_or xs n d) = sum_by_more f xs n d (omega arith) in
    let same_size : suc n ≡ n + 1 = omega arith in
    omega (arith, rest, same n (omega arith), more, ap (λ k. sum_by f (take k xs)) same_size)

sum-links : (g : GraphValue) → sum_below (λ t. length (before_of g t)) (length g.tasks) ≡ link_count g
sum-links g = go g.tasks refl
  where
    go : (tasks : List TaskValue) → tasks ≡ g.tasks → sum_below (λ t. length (before_of g t)) (length g.tasks) ≡ link_count g
    go [] e = subst (λ (l : List TaskValue). sum_below (λ t. length (before_of g t)) (length l) ≡ sum_by (λ (task : TaskValue). length task.before) l) e refl
    go (d ∷ rest) e =
        sum-list (λ (task : TaskValue). length task.before) (λ t. length (before_of g t)) g.tasks d
        (λ k below. ap (λ (l : List ℕ). length l) (before-at g k (get_or g.tasks k d) below (get_or_default g.tasks k d (get_or g.tasks k d) below))) (length g.tasks) (omega arith)
        ∙ ap (sum_by (λ (task : TaskValue). length task.before)) (take_all (length g.tasks) g.tasks (omega arith))

abbrev one : {X : Type 0} → Option X → ℕ
one o = one_if (is_some o)

-- what has happened to a task and to a cell
abbrev task_weight : GraphValue → State → ℕ → ℕ
task_weight g s t = one (s.runner t) + one (s.number t) + one_if (s.given t) + counted (λ u. s.released u t) (before_of g t)

abbrev weight : Plan → State → ℕ
weight p s = sum_below (task_weight p.graph s) (length p.graph.tasks) + sum_below (λ c. one (s.value c)) p.graph.cells

one-most : {X : Type 0} (o : Option X) → one o ≤ 1
one-most None = omega arith
one-most (Some x) = omega arith

module _ {X : Type 0} (f : ℕ → Option X) (n : ℕ) (x : X) where
  one-more : f n ≡ None → one (with f n (Some x) n) ≡ one (f n) + 1
  one-more none = omega (arith, ap (λ (o : Option X). one o) none, ap (λ (o : Option X). one o) (with-same f n (Some x) n refl), refl_one)
    where
      refl_one : one {X = X} None ≡ 0
      refl_one = refl

  one-same : (k : ℕ) → (k ≡ n → ⊥) → one (with f n (Some x) k) ≡ one (f k)
  one-same k other = ap (λ (o : Option X). one o) (with-other f n (Some x) k other)

module _ (p : Plan) (is : IsPlan p) (s : State) (sound : IsSound p s) where
  -- one task has come one step further
  abbrev Further : (e : Event) → Type 0
  Further e = weight p (happens p s e) ≡ weight p s + 1

  task-further : (e : Event) (task : ℕ) → task < length p.graph.tasks → (happens p s e).value ≡ s.value
      → task_weight p.graph (happens p s e) task ≡ task_weight p.graph s task + 1
      → ((k : ℕ) → (k ≡ task → ⊥) → task_weight p.graph (happens p s e) k ≡ task_weight p.graph s k) → Further e
  task-further e task below kept more same = omega (
    arith,
    sum-more (task_weight p.graph s) (task_weight p.graph (happens p s e)) task (length p.graph.tasks) below more same,
    ap (λ (value : ℕ → Option Outcome). sum_below (λ c. one (value c)) p.graph.cells) kept,
  )

  is-below : (t : ℕ) → IsSome (s.runner t) → t < length p.graph.tasks
  is-below t some = (sound.held.tasks t (sound.held.started t some)).0

  further : (e : Event) → Enabled p s e → Further e
  further (Start hand task) enabled = task-further (Start hand task) task (sound.held.tasks task (some-of (s.holder task) hand enabled.0)).0 refl
      (omega (arith, one-more s.runner task hand enabled.1))
      (λ k other. omega (arith, one-same s.runner task hand k other))
  further (Write hand cell) enabled = omega (
    arith,
    sum-more (λ c. one (s.value c)) (λ c. one ((happens p s (Write hand cell)).value c)) cell p.graph.cells (is.graph.partition.past enabled.0 cell enabled.1).1
        (one-more s.value cell (outcome_at p.solution cell) enabled.4) (one-same s.value cell (outcome_at p.solution cell)),
  )
  further (Finish hand task) enabled = task-further (Finish hand task) task (is-below task (some-of (s.runner task) hand enabled.0)) refl
      (omega (arith, one-more s.number task s.finished enabled.1))
      (λ k other. omega (arith, one-same s.number task s.finished k other))
  further (Release hand task next) enabled = task-further (Release hand task next) next below refl
      (omega (arith, count-more (λ u. s.released u next) (λ u. with_link s.released task next u next) task (before_of p.graph next) (is.graph.linked.before_once next) before enabled.3 (link-new s.released task next) (λ u other. sym (link-row s.released task next u next other))))
      (λ k other. omega (arith, count-same (λ u. s.released u k) (λ u. with_link s.released task next u k) (before_of p.graph k) (λ u h. sym (link-column s.released task next u k other))))
    where
      before : Contains (before_of p.graph next) task
      before = (is.graph.linked.mirrored next task).1 enabled.2

      below : next < length p.graph.tasks
      below = ⊎_elim
          (λ (inside : next < length p.graph.tasks). inside)
          (λ (past : length p.graph.tasks ≤ next). absurd (in_none task (subst (λ l. Contains l task) (before-past p.graph next past) before)))
          (cases_lt next (length p.graph.tasks))
  further (Give giver taker task) enabled = task-further (Give giver taker task) task (sound.held.tasks task (some-of (s.holder task) giver enabled.0)).0 refl
      (omega (arith, ap one_if enabled.2, ap one_if (with-same s.given task true task refl)))
      (λ k other. omega (arith, ap one_if (with-other s.given task true k other)))

module _ (p : Plan) (is : IsPlan p) where
  all-further : (es : List Event) (s : State) → IsSound p s → AllEnabled p s es → weight p (all_happen p s es) ≡ weight p s + length es
  all-further [] s sound enabled = omega arith
  all-further (e ∷ es) s sound enabled = omega (arith, all-further es (happens p s e) (keeps p is s sound e enabled.0) enabled.1, further p is s sound e enabled.0)

  most-weight : (s : State) → weight p s ≤ 3 * length p.graph.tasks + link_count p.graph + p.graph.cells
  most-weight s = omega (
    arith,
    sum-most (task_weight p.graph s) (λ t. length (before_of p.graph t)) (length p.graph.tasks) each,
    sum-links p.graph,
    sum-ones (λ c. one (s.value c)) p.graph.cells (λ c. one-most (s.value c)),
  )
    where
      bit-most : (b : Bool) → one_if b ≤ 1
      bit-most true = omega arith
      bit-most false = omega arith

      each : (t : ℕ) → task_weight p.graph s t ≤ 3 + length (before_of p.graph t)
      each t = omega (arith, one-most (s.runner t), one-most (s.number t), bit-most (s.given t), count-most (λ u. s.released u t) (before_of p.graph t))

  first-weight : (hands : ℕ) → p.graph.inputs ≤ weight p (first_state p hands)
  first-weight hands = omega (
    arith,
    sum-inputs p.graph.inputs p.graph.cells is.graph.partition.inputs,
    sum-same (λ c. one_if (ltb c p.graph.inputs)) (λ c. one ((first_state p hands).value c)) p.graph.cells (λ c below. bit (ltb c p.graph.inputs) (outcome_at p.solution c)),
  )
    where
      bit : (b : Bool) (v : Outcome) → one (cond b (Some v) None) ≡ one_if b
      bit true v = refl
      bit false v = refl

  pub few : (hands : ℕ) (es : List Event) → AllEnabled p (first_state p hands) es → length es ≤ most_events p.graph
  few hands es enabled = omega (arith, all-further es (first_state p hands) (first-sound p is hands) enabled, most-weight (all_happen p (first_state p hands) es), first-weight hands, is.graph.partition.inputs)
