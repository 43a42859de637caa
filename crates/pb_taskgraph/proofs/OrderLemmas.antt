-- Orders of tasks, and runs in such an order.
use Rattle.std.proofs.Common.{◌≡◌, ◌∙◌, refl, sym, subst, ⊎_elim, ℕ, zero, suc, ◌<◌, ◌≤◌, List, [], ◌∷◌, length, take, get_or, Option, Some, zero-add, arith}
use Rattle.std.specs.List.{Contains, range_with_len}
use Rattle.std.proofs.lemmas.Bool.{cases_lt}
use Rattle.std.proofs.lemmas.List.{get_or-take, get_or_default, length-take-le}
use Rattle.std.proofs.lemmas.List.FromFn.{get_or-range_with_len, length-range_with_len}
use Rattle.std.proofs.lemmas.List.Elements.{Contains-get_or}
use Rattle.pb_base.proofs.ListLemmas.{in_range, range_in}
use Rattle.pb_values.specs.declared.outcome.Outcome.{Outcome}
use Rattle.pb_taskgraph.specs.Graphs.{GraphValue, IsGraph, before_of, cells_of}
use Rattle.pb_taskgraph.specs.Orders.{IsLawful}
use Rattle.pb_taskgraph.specs.Plans.{IsPlan, Plan, outcome_at}
use Rattle.pb_taskgraph.specs.Runs.{TellsInputs, told_after, turn_of}
use Rattle.pb_taskgraph.specs.Turns.{Begins, after_all}
use Rattle.pb_taskgraph.proofs.TurnLemmas.{with-in, with-kept}

-- the tasks by number
pub by-number : (g : GraphValue) → IsGraph g → IsLawful g (range_with_len 0 (length g.tasks))
by-number g is = record {
  only = range_in n;
  each = in_range n;
  once = λ i j below inside same. omega (arith, at i below, at j inside, same);
  after = λ i j below inside h. let smaller = is.linked.smaller (get_or (range_with_len 0 n) i 0) (get_or (range_with_len 0 n) j 0) h in omega (arith, at i below, at j inside);
}
  where
    n : ℕ
    n = length g.tasks

    at : (i : ℕ) → i < length (range_with_len 0 n) → get_or (range_with_len 0 n) i 0 ≡ i
    at i below = get_or-range_with_len 0 n i 0 (omega (arith, length-range_with_len 0 n)) ∙ zero-add i

-- what is told after some tasks
module _ (p : Plan) (is : IsPlan p) where
  abbrev pub Told : (ℕ → Option Outcome) → ℕ → Type 0
  Told told c = told c ≡ Some (outcome_at p.solution c)

  kept : (ts : List ℕ) (told : ℕ → Option Outcome) (c : ℕ) → Told told c → Told (told_after p ts told) c
  unfolding after_all
  kept [] told c is_told = is_told
  kept (t ∷ ts) told c is_told = kept ts (after_all (turn_of p t told)).outcomes c (with-kept p.solution (p.order t) told c is_told)

  made : (ts : List ℕ) (told : ℕ → Option Outcome) (t c : ℕ) → t < length p.graph.tasks → Contains ts t → Contains (cells_of p.graph t) c → Told (told_after p ts told) c
  unfolding after_all
  made [] told t c task h own = absurd (omega (arith, h.1))
  made (u ∷ ts) told t c task (zero, below, same) own =
      kept ts (after_all (turn_of p u told)).outcomes c (with-in p.solution (p.order u) told c (subst (λ z. Contains (p.order z) c) (sym same) ((is.listed t c task).1 own)))
  made (u ∷ ts) told t c task (suc k, below, same) own = made ts (after_all (turn_of p u told)).outcomes t c task (k, omega arith, same) own

  module _ (order : List ℕ) (told : ℕ → Option Outcome) (lawful : IsLawful p.graph order) (given : TellsInputs p told) where
    pub run-begins : (i : ℕ) → i < length order → Begins p (get_or order i 0) (turn_of p (get_or order i 0) (told_after p (take i order) told))
    run-begins i below = record {
      task = refl;
      inputs = λ c input. kept (take i order) told c (given c input);
      before = λ u c h own. let earlier = is.graph.linked.smaller t u h in let task = lawful.only t (Contains-get_or order i 0 below) in
          made (take i order) told u c (omega arith) (ran u (omega arith) h) own;
      left = refl;
    }
      where
        t : ℕ
        t = get_or order i 0

        -- a task that must stand before has been run
        ran : (u : ℕ) → u < length p.graph.tasks → Contains (before_of p.graph t) u → Contains (take i order) u
        ran u task h =
            let there = lawful.each u task in
            let is_u : get_or order there.0 0 ≡ u = get_or_default order there.0 0 u there.1 ∙ there.2 in
            let earlier = lawful.after i there.0 below there.1 (subst (Contains (before_of p.graph t)) (sym is_u) h) in
            (there.0, omega (arith, length-take-le i order), get_or-take i order there.0 u earlier ∙ there.2)

    pub run-ends : (c : ℕ) → c < p.graph.cells → Told (told_after p order told) c
    run-ends c below = ⊎_elim
        (λ (input : c < p.graph.inputs). kept order told c (given c input))
        (λ (past : p.graph.inputs ≤ c). let there = is.graph.partition.some c past below in made order told there.0 c there.1 (lawful.each there.0 there.1) there.2)
        (cases_lt c p.graph.inputs)
